-- The levels at which neighbours part, one address on.
use Rattle.std.proofs.Common.{◌≡◌, ◌≢◌, ℕ, ◌+◌, ◌<◌, ◌≤◌, List, [], ◌∷◌, ◌++◌, length, slice_index, ◌∙◌, inl, inr, arith}
use Rattle.std.proofs.lemmas.Bool.{cases_lt}
use Rattle.std.proofs.lemmas.List.{get_or_push, get_or_append_left}
use Rattle.dpf_rules.specs.Evaluation.{prefix}

module _ (addresses splits : List ℕ) (k level : ℕ) (many : length splits ≡ k) where
  abbrev after : List ℕ
  after = splits ++ level ∷ []

  earlier : (j : ℕ) → j < k → slice_index after j ≡ slice_index splits j
  earlier j below = get_or_append_left splits (level ∷ []) 0 j (omega arith)

  latest : (j : ℕ) → j ≡ k → slice_index after j ≡ level
  latest j here = get_or_push splits level 0 j (omega arith)

  pub first_more : (k ≡ 0 → level ≡ 0) → slice_index splits 0 ≡ 0 → slice_index after 0 ≡ 0
  first_more starts first = elim (cases_lt 0 k) [
    | inl later ↦ earlier 0 later ∙ first
    | inr begins ↦ latest 0 (omega arith) ∙ starts (omega arith)
  ]

  pub joined_more : ((j i : ℕ) → j + 1 < k → i < slice_index splits (j + 1) → i ≤ 128
      → prefix i (slice_index addresses j) ≡ prefix i (slice_index addresses (j + 1)))
      → ((j i : ℕ) → j + 1 ≡ k → i < level → i ≤ 128 → prefix i (slice_index addresses j) ≡ prefix i (slice_index addresses (j + 1)))
      → (j i : ℕ) → j + 1 < k + 1 → i < slice_index after (j + 1) → i ≤ 128
      → prefix i (slice_index addresses j) ≡ prefix i (slice_index addresses (j + 1))
  joined_more before last j i below early most = elim (cases_lt (j + 1) k) [
    | inl less ↦ before j i less (rw (earlier (j + 1) less) at early) most
    | inr same ↦ let here : j + 1 ≡ k = omega arith in last j i here (rw (latest (j + 1) here) at early) most
  ]

  pub apart_more : ((j i : ℕ) → j + 1 < k → slice_index splits (j + 1) ≤ i → i ≤ 128
      → prefix i (slice_index addresses j) ≢ prefix i (slice_index addresses (j + 1)))
      → ((j i : ℕ) → j + 1 ≡ k → level ≤ i → i ≤ 128 → prefix i (slice_index addresses j) ≢ prefix i (slice_index addresses (j + 1)))
      → (j i : ℕ) → j + 1 < k + 1 → slice_index after (j + 1) ≤ i → i ≤ 128
      → prefix i (slice_index addresses j) ≢ prefix i (slice_index addresses (j + 1))
  apart_more before last j i below past most = elim (cases_lt (j + 1) k) [
    | inl less ↦ before j i less (rw (earlier (j + 1) less) at past) most
    | inr same ↦ let here : j + 1 ≡ k = omega arith in last j i here (rw (latest (j + 1) here) at past) most
  ]
