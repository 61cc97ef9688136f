-- The port that a word names.
use Rattle.std.specs.Prelude.{◌≡◌, ◌≤◌, ℕ, List, Option, Some, None}
use Rattle.std.specs.Fmt.{decimal}

-- the port from 1 to 65,534 whose decimal digits these are, if any
abbrev pub IsPort : List ℕ → Option ℕ → Type 0
IsPort text (Some port) = (text ≡ decimal port) × (1 ≤ port) × (port ≤ 65534)
IsPort text None = (port : ℕ) → 1 ≤ port → port ≤ 65534 → text ≡ decimal port → ⊥
