-- Difference vectors with two places or more that aren't zero, and the challenges that can hide them.
use Rattle.std.specs.Prelude.{◌≡◌, ◌≢◌, ℕ, ◌-◌, ◌<◌, ◌==◌, ◌⊎◌, List, length, slice_index}
use Rattle.std.specs.List.{prefix_len, suffix_len}
use Rattle.audit_rules.specs.Audit.{bad_r, bad_s}

-- two places or more of w aren't zero
abbrev pub HasTwo : List ℕ → Type 0
HasTwo w = (i : ℕ) × (j : ℕ) × (i < j) × (slice_index w i ≢ 0) × (slice_index w j ≢ 0)

-- the first place of w that isn't zero: the zeros from the front on stand before it
unfoldable pub first_place : List ℕ → ℕ
first_place w = prefix_len (λ n. n == 0) w

-- the last place of w that isn't zero: the zeros from the end back stand after it
unfoldable pub last_place : List ℕ → ℕ
last_place w = length w - 1 - suffix_len (λ n. n == 0) w

-- a is the first place of w that isn't zero
pub record IsFirst (w : List ℕ) (a : ℕ) : Type 0 where
  pub inside : a < length w
  pub apart : slice_index w a ≢ 0
  pub before : (k : ℕ) → k < a → slice_index w k ≡ 0

-- b is the last place of w that isn't zero
pub record IsLast (w : List ℕ) (b : ℕ) : Type 0 where
  pub inside : b < length w
  pub apart : slice_index w b ≢ 0
  pub after : (k : ℕ) → b < k → slice_index w k ≡ 0

-- the challenge is bad for w: r is at the first place what hides w, or s is at the last
abbrev pub IsBadChallenge : List ℕ → List ℕ → List ℕ → Type 0
IsBadChallenge w r s =
    let a = first_place w in
    let b = last_place w in
    (slice_index r a ≡ bad_r w r s a) ⊎ (slice_index s b ≡ bad_s w s a b)
