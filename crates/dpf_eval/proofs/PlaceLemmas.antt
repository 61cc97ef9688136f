-- The place of an address among boxes by rising address.
use Rattle.std.proofs.Common.{◌≡◌, ℕ, ◌<◌, ◌≤◌, true, false, List, [], ◌∷◌, length, slice_index, get_or, unwrap_or, suc, zero, refl, ap, ◌∙◌, arith, ltb, ltb-true, ltb-false, inl, inr}
use Rattle.std.specs.Prelude.{slice_get}
use Rattle.std.specs.List.Sorted.{IsPartitionedBy, IsPartitionPoint}
use Rattle.std.proofs.lemmas.List.{get_or_default}
use Rattle.std.proofs.lemmas.List.Sorted.{IsPartitionedBy-ltb}
use Rattle.std.proofs.lemmas.Bool.{cases_lt}
use Rattle.dpf_eval.specs.Order.{IsOrder}

-- the address of a box, or this one where there is no such box
abbrev pub address_or : List ℕ → ℕ → ℕ → ℕ
address_or addresses other b = unwrap_or (slice_get addresses b) other

there : (addresses : List ℕ) (other b : ℕ) → b < length addresses → address_or addresses other b ≡ slice_index addresses b
there [] other b h = absurd (omega arith)
there (a ∷ addresses) other zero h = refl
there (a ∷ addresses) other (suc b) h = there addresses other b (omega arith)

module _ (addresses order : List ℕ) (is : IsOrder addresses order) (address : ℕ) where
  abbrev at : ℕ → ℕ
  at k = slice_index addresses (slice_index order k)

  at-or : (k d : ℕ) → k < length order → address_or addresses address (get_or order k d) ≡ at k
  at-or k d h =
      ap (address_or addresses address) (get_or_default order k d 0 h)
      ∙ there addresses address (slice_index order k) (is.inside k h)

  rises : (i j : ℕ) → i ≤ j → j < length order → at i ≤ at j
  rises i j le h = elim (cases_lt i j) [
    | inl lt ↦ omega (arith, is.rising i j lt h)
    | inr ge ↦ let same : i ≡ j = omega arith in rw same (omega arith)
  ]

  pub parted : IsPartitionedBy (λ b. ltb (address_or addresses address b) address) order
  parted = IsPartitionedBy-ltb (address_or addresses address) order address
      (λ i j d le h. let ei = at-or i d (omega arith) in let ej = at-or j d h in omega (arith, ei, ej, rises i j le h))

  pub point-below : (place : ℕ) → IsPartitionPoint (λ b. ltb (address_or addresses address b) address ≡ true) (λ b. ltb (address_or addresses address b) address ≡ false) order place →
      place ≤ length order → (k : ℕ) → k < place → at k < address
  point-below place point le k h = omega (arith, ltb-true _ _ (point.0 k 0 (omega arith) h), at-or k 0 (omega arith))

  pub point-above : (place : ℕ) → IsPartitionPoint (λ b. ltb (address_or addresses address b) address ≡ true) (λ b. ltb (address_or addresses address b) address ≡ false) order place →
      (k : ℕ) → place ≤ k → k < length order → address ≤ at k
  point-above place point k le h = omega (arith, ltb-false _ _ (point.1 k 0 le h), at-or k 0 h)
