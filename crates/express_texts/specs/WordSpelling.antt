-- What spells a value.
use Rattle.std.specs.Prelude.{◌≡◌, ℕ, List, Ok}
use Rattle.std.specs.Int.{w128, from_be_bytes}
use Rattle.hex.specs.Hex.{decode_sized}

-- 32 hexadecimal digits in either case, the most significant first
abbrev pub SpellsWord : ℕ → List ℕ → Type 0
SpellsWord word digits =
    (bytes : List ℕ) × (decode_sized digits 16 ≡ Ok bytes) × (word ≡ from_be_bytes w128 bytes)
