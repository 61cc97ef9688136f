-- The fields that only the lines of a schedule have: the first of two readings, a server, a frame in digits.
use Rattle.std.specs.Prelude.{ℕ, ◌/◌, nat_le, ◌&&◌, if◌then◌else◌}
use Rattle.std.specs.Prelude.{codes, length, List, Option, Some, None, option_map}
use Rattle.std.specs.Result.{result_ok}
use Rattle.hex.specs.Hex.{decode_of}
use Rattle.frame_rules.specs.declared.frame.TheConstants.{FRAME_MAX}
use Rattle.express_texts.specs.LineFields.{after}

-- the first that there is
abbrev pub or_else : {A : Type 0} → Option A → Option A → Option A
or_else None other = other
or_else (Some x) other = Some x

-- a server and a space in front: A is 0, B is 1; and what follows
unfoldable pub server_at : List ℕ → Option (ℕ × List ℕ)
server_at bytes =
    or_else (option_map (λ rest. (0, rest)) (after (codes "A ") bytes))
    (option_map (λ rest. (1, rest)) (after (codes "B ") bytes))

-- 1 to 8,213 bytes, in twice as many hexadecimal digits
unfoldable pub bytes_of : List ℕ → Option (List ℕ)
bytes_of digits =
    if nat_le 1 (length digits / 2) && nat_le (length digits / 2) FRAME_MAX
    then result_ok (decode_of digits) else None
