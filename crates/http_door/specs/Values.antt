-- Values of header fields.
use Rattle.std.specs.Prelude.{ℕ, Bool, ◌&&◌, List, length, nat_lt, nat_le}
use Rattle.std.specs.List.{list_all}
use Rattle.std.specs.Char.{is_ascii_graphic}

-- each byte is visible ASCII
abbrev pub is_visible : List ℕ → Bool
is_visible bytes = list_all is_ascii_graphic bytes

-- 1 to 255 bytes of visible ASCII
abbrev pub is_value : List ℕ → Bool
is_value bytes = nat_lt 0 (length bytes) && (nat_le (length bytes) 255 && is_visible bytes)
