-- The sketch of a vector that is zero everywhere but at one place, and that a client's proof for it passes at every point, on
-- numbers.
use Rattle.std.specs.Prelude.{◌≡◌, ◌≢◌, ℕ, ◌<◌, ◌^◌, List, [], ◌∷◌, length, All, slice_index, bit_xor, refl}
use Rattle.std.proofs.Common.{◌∙◌, ap, sym, subst, get_or, arith}
use Rattle.std.specs.Int.Bits.{xor_assoc, xor_self, xor_zero_l}
use Rattle.std.proofs.lemmas.Nat.{xor_comm}
use Rattle.tower_laws.specs.Elements.{element_one}
use Rattle.tower_laws.proofs.ElementLaws.{level_laws, element_path}
use Rattle.tower_laws.specs.Gf.{gf, values}
use Rattle.tower_laws.proofs.GfLaws.{gf_two}
use Rattle.tower_laws.specs.Polynomials.{value_at, plus_of, times_of}
use Rattle.tower_laws.specs.Through.{through}
use Rattle.audit_rules.specs.Sketch as sketch
use Rattle.audit_rules.specs.Passing.{Passes}
use Rattle.audit_rules.proofs.Words.{word_in_range}
use Rattle.audit_rules.proofs.Honest.{total-alone, dot-alone, dot3-alone, honest-passes}
use Rattle.audit_rules.specs.Audit.{product, value, through_three, sums_of, whole_proof, zero_share, one_share, honest_f, honest_g, PassesAt}
use Rattle.audit_rules.proofs.Transfer.{E, z, add, mul, element, elements, values-elements, length-values, get_or-values, dot-values, total-values, dot3-values, value-values, times-values}
use Rattle.audit_rules.specs.Alone.{sums_alone, IsAlone}

alone_values : (w r s : List E) (p : ℕ) → p < length w → length r ≡ length w → length s ≡ length w → IsAlone (values w) p →
    sums_of (values w) (values r) (values s) ≡ sums_alone (slice_index (values w) p) (slice_index (values r) p) (slice_index (values s) p)
unfolding sums_of
alone_values w r s p h lr ls alone =
    let laws = (level_laws 7).0 in
    let zeros : (i : ℕ) → i ≢ p → get_or w i z ≡ z = λ i n. element_path 7 (get_or w i z) z (sym (get_or-values w i) ∙ alone i n) in
    let m = get_or-values w p in
    let r_is = get_or-values r p in
    let s_is = get_or-values s p in
    let total : sketch.total 0 bit_xor (values w) ≡ (get_or w p z).value = total-values w ∙ ap (λ e. e.value) (total-alone laws w p h zeros) in
    let x : sketch.dot 0 bit_xor product (values w) (values r) ≡ product (get_or w p z).value (get_or r p z).value = dot-values w r ∙ ap (λ e. e.value) (dot-alone laws w r p h (omega arith) zeros) in
    let y : sketch.dot 0 bit_xor product (values w) (values s) ≡ product (get_or w p z).value (get_or s p z).value = dot-values w s ∙ ap (λ e. e.value) (dot-alone laws w s p h (omega arith) zeros) in
    let k : sketch.dot3 0 bit_xor product (values w) (values r) (values s) ≡ product (product (get_or w p z).value (get_or r p z).value) (get_or s p z).value =
    dot3-values w r s ∙ ap (λ e. e.value) (dot3-alone laws w r s p h (omega arith) (omega arith) zeros) in
    cc

abbrev Alone : List ℕ → List ℕ → List ℕ → ℕ → Type 0
Alone w r s p = p < length w → length r ≡ length w → length s ≡ length w → IsAlone w p → sums_of w r s ≡ sums_alone (slice_index w p) (slice_index r p) (slice_index s p)

pub alone_is : (w r s : List ℕ) (p : ℕ) → All (λ n. n < 2 ^ 128) w → All (λ n. n < 2 ^ 128) r → All (λ n. n < 2 ^ 128) s → Alone w r s p
alone_is w r s p hw hr hs =
    subst (λ w. Alone w r s p) (values-elements w hw)
    (subst (λ r. Alone (values (elements w hw)) r s p) (values-elements r hr)
    (subst (λ s. Alone (values (elements w hw)) (values (elements r hr)) s p) (values-elements s hs)
    (λ h lr ls alone.
    alone_values (elements w hw) (elements r hr) (elements s hs) p (omega (arith, length-values (elements w hw)))
    (sym (length-values (elements r hr)) ∙ lr ∙ length-values (elements w hw)) (sym (length-values (elements s hs)) ∙ ls ∙ length-values (elements w hw)) alone)))

-- ---- the proof

-- what is added twice goes
pub plus_back : (q p : List ℕ) → length q ≡ length p → plus_of bit_xor q (plus_of bit_xor p q) ≡ p
plus_back [] [] h = refl
plus_back [] (y ∷ p) h = cc
plus_back (x ∷ q) [] h = cc
plus_back (x ∷ q) (y ∷ p) h =
    let head : bit_xor x (bit_xor y x) ≡ y = ap (bit_xor x) (xor_comm y x) ∙ sym (xor_assoc x x y) ∙ ap (λ n. bit_xor n y) (xor_self x) ∙ xor_zero_l y in
    let tail = plus_back q p (omega arith) in
    cc

pub number_back : (x y : ℕ) → bit_xor x (bit_xor y x) ≡ y
number_back x y = ap (bit_xor x) (xor_comm y x) ∙ sym (xor_assoc x x y) ∙ ap (λ n. bit_xor n y) (xor_self x) ∙ xor_zero_l y

passes_down : (x y m k u v alpha sigma : E) (h : List E) →
    Passes z (element_one 7) add mul (through add mul (gf 2) u x m) (through add mul (gf 2) v y k) h (gf 2) alpha sigma →
    Passes 0 1 bit_xor product (through_three u.value x.value m.value) (through_three v.value y.value k.value) (values h) 2 alpha.value sigma.value
passes_down x y m k u v alpha sigma h passes = record {
  outputs =
      ap (λ n. bit_xor n (value (values h) 2)) (value-values h (element_one 7)) ∙ ap (bit_xor (value_at z add mul h (element_one 7)).value) (value-values h (gf 2)) ∙ ap (λ e. e.value) passes.outputs;
  product =
      ap (λ n. bit_xor (product sigma.value (bit_xor (product (value (through_three u.value x.value m.value) sigma.value) (value (through_three v.value y.value k.value) sigma.value)) n)) alpha.value) (value-values h sigma)
      ∙ ap (λ e. e.value) passes.product;
}

honest_made : (m r s u v a b sigma : E) →
    Passes 0 1 bit_xor product (through_three u.value (product m.value r.value) m.value) (through_three v.value (product m.value s.value) (product (product m.value r.value) s.value))
    (times_of 0 bit_xor product (through_three u.value (product m.value r.value) m.value) (through_three v.value (product m.value s.value) (product (product m.value r.value) s.value))) 2
    (bit_xor (product a.value b.value) (product a.value b.value)) sigma.value
honest_made m r s u v a b sigma =
    let f = through add mul (gf 2) u (mul m r) m in
    let g = through add mul (gf 2) v (mul m s) (mul (mul m r) s) in
    subst (λ h. Passes 0 1 bit_xor product (values f) (values g) h 2 (bit_xor (product a.value b.value) (product a.value b.value)) sigma.value) (sym (times-values f g))
    (passes_down (mul m r) (mul m s) m (mul (mul m r) s) u v (add (mul a b) (mul a b)) sigma (times_of z add mul f g) (honest-passes (level_laws 7).0 (gf 2) gf_two u v m r s a b sigma))

-- a client's proof passes at every point for the sums of its write
pub honest_passes : (m r s sigma : ℕ) (words : List ℕ) → m < 2 ^ 128 → r < 2 ^ 128 → s < 2 ^ 128 → sigma < 2 ^ 128 → ((k : ℕ) → slice_index words k < 2 ^ 128) →
    PassesAt (sums_alone m r s) (whole_proof (zero_share words) (one_share m r s words)) sigma
unfolding PassesAt whole_proof zero_share one_share
honest_passes m r s sigma words hm hr hs hp hw =
    let word : ℕ → E = λ k. element (slice_index words k) (hw k) in
    let f = honest_f m r words in
    let g = honest_g m r s words in
    let a = bit_xor (slice_index words 11) (slice_index words 12) in
    let b = bit_xor (slice_index words 13) (slice_index words 14) in
    let t = times_of 0 bit_xor product f g in
    subst (λ h. Passes 0 1 bit_xor product f g h 2 (bit_xor (product a b) (bit_xor (slice_index words 15) (bit_xor (product a b) (slice_index words 15)))) sigma) (sym (plus_back (zero_share words).h t refl))
    (subst (λ n. Passes 0 1 bit_xor product f g t 2 (bit_xor (product a b) n) sigma) (sym (number_back (slice_index words 15) (product a b)))
    (honest_made (element m hm) (element r hr) (element s hs) (add (word 2) (word 3)) (add (word 4) (word 5)) (add (word 11) (word 12)) (add (word 13) (word 14)) (element sigma hp)))

-- so it passes for the sums of a vector that is zero everywhere but at one place
pub alone_passes : (w r s : List ℕ) (p sigma : ℕ) (words : List ℕ) →
    All (λ n. n < 2 ^ 128) w → All (λ n. n < 2 ^ 128) r → All (λ n. n < 2 ^ 128) s → All (λ n. n < 2 ^ 128) words → sigma < 2 ^ 128 → p < length w → length r ≡ length w → length s ≡ length w → IsAlone w p →
    PassesAt (sums_of w r s) (whole_proof (zero_share words) (one_share (slice_index w p) (slice_index r p) (slice_index s p) words)) sigma
alone_passes w r s p sigma words hw hr hs hk hp inside lr ls alone =
    subst (λ t. PassesAt t (whole_proof (zero_share words) (one_share (slice_index w p) (slice_index r p) (slice_index s p) words)) sigma) (sym (alone_is w r s p hw hr hs inside lr ls alone))
    (honest_passes (slice_index w p) (slice_index r p) (slice_index s p) sigma words (word_in_range w hw p) (word_in_range r hr p) (word_in_range s hs p) hp (word_in_range words hk))
