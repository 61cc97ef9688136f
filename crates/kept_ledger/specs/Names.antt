-- Names of boxes.
use Rattle.std.specs.Prelude.{ℕ, nat_le, ◌==◌, ◌||◌, ◌&&◌, not, Bool, List, length}
use Rattle.std.specs.Char.{is_ascii_digit, is_ascii_lowercase}
use Rattle.std.specs.List.{list_all}

-- a lower-case letter, a digit, or -
abbrev pub is_name_byte : ℕ → Bool
is_name_byte b = (is_ascii_lowercase b || is_ascii_digit b) || (b == 45)

-- 1 to 32 of these
unfoldable pub is_name : List ℕ → Bool
is_name text = not (length text == 0) && (nat_le (length text) 32 && list_all is_name_byte text)
