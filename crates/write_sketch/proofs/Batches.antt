-- Sums over places and sums over lists.
use Rattle.std.specs.Prelude.{◌≡◌, ℕ, List, [], ◌∷◌, length, slice_index, bit_xor, refl}
use Rattle.std.proofs.Common.{sym, ◌∙◌, ap, arith}
use Rattle.audit_rules.specs.Sketch.{dot, dot3}
use Rattle.audit_rules.specs.Audit.{product}
use Rattle.sliced_sums.specs.Places.{sum_over}

abbrev at_two : List ℕ → List ℕ → ℕ → ℕ
at_two w r j = product (slice_index w j) (slice_index r j)

abbrev at_three : List ℕ → List ℕ → List ℕ → ℕ → ℕ
at_three w r s j = product (at_two w r j) (slice_index s j)

dot_over : (w r : List ℕ) → length w ≡ length r → sum_over (length w) (at_two w r) ≡ dot 0 bit_xor product w r
unfolding sum_over
dot_over [] r h = refl
dot_over (x ∷ w) [] h = absurd (omega arith)
dot_over (x ∷ w) (y ∷ r) h = ap (bit_xor (product x y)) (dot_over w r (omega arith))

dot3_over : (w r s : List ℕ) → length w ≡ length r → length w ≡ length s → sum_over (length w) (at_three w r s) ≡ dot3 0 bit_xor product w r s
unfolding sum_over
dot3_over [] r s h i = refl
dot3_over (x ∷ w) [] s h i = absurd (omega arith)
dot3_over (x ∷ w) (y ∷ r) [] h i = absurd (omega arith)
dot3_over (x ∷ w) (y ∷ r) (v ∷ s) h i = ap (bit_xor (product (product x y) v)) (dot3_over w r s (omega arith) (omega arith))

-- over all places of lists of one length
pub dot_whole : (n : ℕ) (w r : List ℕ) → n ≡ length w → n ≡ length r → sum_over n (λ j. product (slice_index w j) (slice_index r j)) ≡ dot 0 bit_xor product w r
dot_whole n w r h i = ap (λ n. sum_over n (at_two w r)) h ∙ dot_over w r (sym h ∙ i)

pub dot3_whole : (n : ℕ) (w r s : List ℕ) → n ≡ length w → n ≡ length r → n ≡ length s →
    sum_over n (λ j. product (product (slice_index w j) (slice_index r j)) (slice_index s j)) ≡ dot3 0 bit_xor product w r s
dot3_whole n w r s h i k = ap (λ n. sum_over n (at_three w r s)) h ∙ dot3_over w r s (sym h ∙ i) (sym h ∙ k)
