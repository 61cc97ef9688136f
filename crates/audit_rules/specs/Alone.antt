-- A vector that is zero everywhere but at one place, and its sums.
use Rattle.std.specs.Prelude.{◌≡◌, ◌≢◌, ℕ, List, slice_index}
use Rattle.audit_rules.specs.declared.sums.Sums.{Sums}
use Rattle.audit_rules.specs.Audit.{product}

-- the sums of a vector whose one value m stands where the challenge is r and s
abbrev pub sums_alone : ℕ → ℕ → ℕ → Sums
sums_alone m r s = record { x = product m r; y = product m s; m = m; z = product (product m r) s }

-- w is zero at every place but p
abbrev pub IsAlone : List ℕ → ℕ → Type 0
IsAlone w p = (i : ℕ) → i ≢ p → slice_index w i ≡ 0
