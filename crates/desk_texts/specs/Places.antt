-- Where a server is reached: host:port.
use Rattle.std.specs.Prelude.{ℕ, nat_le, ◌==◌, ◌||◌, ◌&&◌, not, if◌then◌else◌, Bool, false, List, [], ◌∷◌}
use Rattle.std.specs.Prelude.{length, codes, Option, Some, None, is_some}
use Rattle.std.specs.Char.{is_ascii_digit, is_ascii_lowercase}
use Rattle.std.specs.List.{list_all, list_any}
use Rattle.express_texts.specs.Numbers.{last_number}

-- a lower-case letter, a digit, or one of .:-[]
abbrev pub is_place_byte : ℕ → Bool
is_place_byte b = (is_ascii_digit b || is_ascii_lowercase b) || list_any (λ c. c == b) (codes ".:-[]")

abbrev pub or_behind : ℕ → List ℕ → Option (List ℕ) → Option (List ℕ)
or_behind b bytes (Some port) = Some port
or_behind b bytes None = if b == 58 then Some bytes else None

-- what stands behind the last colon
unfoldable pub behind_colon : List ℕ → Option (List ℕ)
behind_colon [] = None
behind_colon (b ∷ bytes) = or_behind b bytes (behind_colon bytes)

abbrev pub is_port : Option (List ℕ) → Bool
is_port None = false
is_port (Some port) = is_some (last_number 1 65535 port)

abbrev pub begins_with_colon : List ℕ → Bool
begins_with_colon [] = false
begins_with_colon (b ∷ bytes) = b == 58

-- at most 255 such characters, of which the first is no colon, and behind the last colon a port
unfoldable pub is_place : List ℕ → Bool
is_place text =
    nat_le (length text) 255
    && (not (begins_with_colon text) && (list_all is_place_byte text && is_port (behind_colon text)))
