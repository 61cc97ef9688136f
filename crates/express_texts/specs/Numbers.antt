-- Numbers in decimal digits, as functions from the bytes of a line.
use Rattle.std.specs.Prelude.{ℕ, ◌+◌, ◌-◌, ◌*◌, nat_le, ◌==◌, ◌&&◌, if◌then◌else◌}
use Rattle.std.specs.Prelude.{List, [], ◌∷◌, Option, Some, None}
use Rattle.std.specs.Char.{is_ascii_digit}
use Rattle.express_texts.specs.LineFields.{◌>>=◌, end}

-- The number whose digits go on at the front, after those of n, and what follows it.
unfoldable pub digits_on : ℕ → List ℕ → ℕ × List ℕ
digits_on n [] = (n, [])
digits_on n (b ∷ bytes) = if is_ascii_digit b then digits_on (10 * n + (b - 48)) bytes else (n, b ∷ bytes)

abbrev pub within : ℕ → ℕ → ℕ × List ℕ → Option (ℕ × List ℕ)
within low high r = if nat_le low r.0 && nat_le r.0 high then Some r else None

-- The number at the front, without leading zeros and within these bounds, and what follows it.
unfoldable pub number_at : ℕ → ℕ → List ℕ → Option (ℕ × List ℕ)
number_at low high [] = None
number_at low high (b ∷ bytes) =
    if b == 48 then within low high (0, bytes)
    else if is_ascii_digit b then within low high (digits_on (b - 48) bytes)
    else None

-- a number and nothing more
unfoldable pub last_number : ℕ → ℕ → List ℕ → Option ℕ
last_number low high bytes = do
  n ← number_at low high bytes
  _ ← end n.1
  Some n.0
