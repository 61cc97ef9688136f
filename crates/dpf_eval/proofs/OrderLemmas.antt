-- Boxes and what is written at their places.
use Rattle.std.proofs.Common.{◌≡◌, ℕ, ◌+◌, ◌<◌, Bool, true, false, List, ◌++◌, length, take, slice_index, set, refl, sym, ◌∙◌, ap, subst, inl, inr, get_or-set_other, get_or-set_same}
use Rattle.std.specs.Prelude.{◌==◌, ◌||◌, IsTrue}
use Rattle.std.proofs.Math.Seq.{take-append_seam}
use Rattle.std.proofs.lemmas.List.Folds.{list_any_more}
use Rattle.std.proofs.lemmas.Bool.{eqb-false, ne_eqb, cases_eq}
use Rattle.dpf_eval.specs.Order.{has_box}

has_box_more : (boxes : List ℕ) (k b : ℕ) → k < length boxes → has_box (take (k + 1) boxes) b ≡ (has_box (take k boxes) b || (b == slice_index boxes k))
has_box_more boxes k b inside = list_any_more (λ x. b == x) boxes k 0 inside

-- a value is written at the place of the next box
module _ (boxes out : List ℕ) (k value : ℕ) (inside : k < length boxes) (room : slice_index boxes k < length out) where
  abbrev after : List ℕ
  after = set out (slice_index boxes k) value

  pub written_more : (value_of : ℕ → ℕ) → value ≡ value_of (slice_index boxes k)
      → ((b : ℕ) → IsTrue (has_box (take k boxes) b) → slice_index out b ≡ value_of b)
      → (b : ℕ) → IsTrue (has_box (take (k + 1) boxes) b) → slice_index after b ≡ value_of b
  written_more value_of is before b here = elim (cases_eq b (slice_index boxes k)) [
    | inl same ↦ rw same (get_or-set_same out (slice_index boxes k) value 0 room ∙ is)
    | inr other ↦
        let no : (b == slice_index boxes k) ≡ false = ne_eqb b (slice_index boxes k) other in
        let earlier : has_box (take (k + 1) boxes) b ≡ has_box (take k boxes) b =
        has_box_more boxes k b inside ∙ rw no (or_false (has_box (take k boxes) b)) in
        get_or-set_other out (slice_index boxes k) b value 0 other ∙ before b (subst IsTrue earlier here)
  ]
    where
      or_false : (c : Bool) → (c || false) ≡ c
      or_false true = refl
      or_false false = refl

  pub others_more : (first : List ℕ) → ((b : ℕ) → has_box (take k boxes) b ≡ false → slice_index out b ≡ slice_index first b)
      → (b : ℕ) → has_box (take (k + 1) boxes) b ≡ false → slice_index after b ≡ slice_index first b
  others_more first before b gone =
      let (earlier, other) = neither (has_box (take k boxes) b) (b == slice_index boxes k) (sym (has_box_more boxes k b inside) ∙ gone) in
      get_or-set_other out (slice_index boxes k) b value 0 (eqb-false b (slice_index boxes k) other) ∙ before b earlier
    where
      neither : (c d : Bool) → (c || d) ≡ false → (c ≡ false) × (d ≡ false)
      neither true d h = cc
      neither false d h = (refl, h)

-- what was written over the whole of an array and is read again
pub read_whole : {A : Type 0} (m : ℕ) (xs ys : List A) → length xs ≡ m → take m (xs ++ ys) ≡ xs
read_whole m xs ys same = ap (λ (n : ℕ). take n (xs ++ ys)) (sym same) ∙ take-append_seam xs ys
