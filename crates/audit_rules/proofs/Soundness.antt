-- The law on bad writes, on numbers.
use Rattle.std.specs.Prelude.{◌≡◌, ◌≢◌, ℕ, ◌<◌, ◌≤◌, ◌^◌, ◌⊎◌, List, length, All, AllPairs, slice_index, bit_xor}
use Rattle.std.proofs.Common.{◌∙◌, ap, sym, subst, get_or, set, inl, inr, arith}
use Rattle.std.proofs.lemmas.Bool.{cases_eq, cases_lt}
use Rattle.std.proofs.lemmas.List.{set-set, get_or-set_other}
use Rattle.tower_numbers.specs.Levels.{inverse_at}
use Rattle.tower_laws.specs.Elements.{element_one}
use Rattle.tower_laws.proofs.ElementLaws.{element_path, level_laws}
use Rattle.tower_laws.specs.Gf.{gf, values}
use Rattle.tower_laws.proofs.GfLaws.{gf_two}
use Rattle.tower_laws.specs.Polynomials.{value_at}
use Rattle.tower_laws.specs.Through.{through}
use Rattle.express_words.specs.declared.audit.ProofShare.{ProofShare}
use Rattle.audit_rules.specs.Sketch as sketch
use Rattle.audit_rules.specs.Passing.{Passes}
use Rattle.audit_rules.proofs.Seen.{seen, divisor_zero}
use Rattle.audit_rules.proofs.Points.{six_points}
use Rattle.express_words.specs.Ranges.{IsProofShare}
use Rattle.audit_rules.specs.Audit.{product, value, through_three, sums_of, bad_s, bad_r_divisor, bad_r, PassesAt}
use Rattle.audit_rules.specs.BadWrites.{IsFirst, IsLast, HasTwo, first_place, last_place, IsBadChallenge}
use Rattle.audit_rules.proofs.Places.{first_is, last_is}
use Rattle.audit_rules.proofs.Transfer.{E, z, add, mul, inverse, element, elements, values-elements, length-values, get_or-values, get_or-default, sums-values, bad_s-values, divisor-values, bad_r-values, value-values}

-- neither bad value depends on the place of the challenge at which it's bad
pub bad_r-fixed : (w r s : List ℕ) (a v : ℕ) → bad_r w (set r a v) s a ≡ bad_r w r s a
unfolding bad_r
bad_r-fixed w r s a v = ap (λ l. product (inverse_at 7 (sketch.divisor 0 bit_xor product w s a)) (sketch.verdict 0 bit_xor product w l s)) (set-set r a v 0)

pub bad_s-fixed : (w s : List ℕ) (a b v : ℕ) → a ≢ b → bad_s w (set s b v) a b ≡ bad_s w s a b
unfolding bad_s
bad_s-fixed w s a b v h =
    let others = sketch.dot 0 bit_xor product w in
    let sum = sketch.total 0 bit_xor w in
    ap (λ l. product (inverse_at 7 (get_or w b 0)) (bit_xor (others l) (product sum (get_or (set s b v) a 0)))) (set-set s b v 0)
    ∙ ap (λ n. product (inverse_at 7 (get_or w b 0)) (bit_xor (others (set s b 0)) (product sum n))) (get_or-set_other s b a v 0 h)

one : E
one = element_one 7

from_value : (x y : E) → x.value ≡ y.value → x ≡ y
from_value x y h = element_path 7 x y h

-- a proof that passes on numbers passes on elements
passes_up : (x y m k u v alpha sigma : E) (h : List E) →
    Passes 0 1 bit_xor product (through_three u.value x.value m.value) (through_three v.value y.value k.value) (values h) 2 alpha.value sigma.value →
    Passes z (element_one 7) add mul (through add mul (gf 2) u x m) (through add mul (gf 2) v y k) h (gf 2) alpha sigma
passes_up x y m k u v alpha sigma h passes = record {
  outputs = from_value _ z
      (sym (ap (λ n. bit_xor n (value (values h) 2)) (value-values h (element_one 7)) ∙ ap (bit_xor (value_at z add mul h (element_one 7)).value) (value-values h (gf 2))) ∙ passes.outputs);
  product = from_value _ z
      (sym (ap (λ n. bit_xor (product sigma.value (bit_xor (product (value (through_three u.value x.value m.value) sigma.value) (value (through_three v.value y.value k.value) sigma.value)) n)) alpha.value) (value-values h sigma)) ∙ passes.product);
}

decide : (x y : E) → (x ≡ y) ⊎ (x ≢ y)
decide x y = elim (cases_eq x.value y.value) [ inl e ↦ inl (from_value x y e) | inr n ↦ inr (λ e. n (ap (λ w. w.value) e)) ]

-- the law on elements
caught : (w r s : List E) (a b : ℕ) → a < length w → b < length w → length r ≡ length w → length s ≡ length w → get_or w a z ≢ z → get_or w b z ≢ z →
    (u v alpha : E) (h points : List E) → length h ≡ 5 → AllPairs (λ p q. p ≢ q) points →
    All (Passes z (element_one 7) add mul (through add mul (gf 2) u (sketch.dot z add mul w r) (sketch.total z add w)) (through add mul (gf 2) v (sketch.dot z add mul w s) (sketch.dot3 z add mul w r s)) h (gf 2) alpha) points →
    (get_or r a z ≡ sketch.bad_r z add mul inverse w r s a) ⊎ (get_or s b z ≡ sketch.bad_s z add mul inverse w s a b) ⊎ (length points ≤ 5)
caught w r s a b ha hb lr ls na nb u v alpha h points five apart passes =
    let laws = (level_laws 7).0 in
    elim (decide (get_or r a z) (sketch.bad_r z add mul inverse w r s a)) [
      | inl bad ↦ inl bad
      | inr good_r ↦
          elim (decide (get_or s b z) (sketch.bad_s z add mul inverse w s a b)) [
            | inl bad ↦ inr (inl bad)
            | inr good_s ↦
                elim (cases_lt 5 (length points)) [
                  | inl many ↦
                      absurd
                      (seen laws w r s a b ha (omega arith) (omega arith) hb (omega arith) na nb good_s good_r
                      (six_points laws (gf 2) gf_two u (sketch.dot z add mul w r) (sketch.total z add w) v (sketch.dot z add mul w s) (sketch.dot3 z add mul w r s) h alpha points (omega arith) apart passes many))
                  | inr few ↦ inr (inr few)
                ]
          ]
    ]

-- the law on the numbers of elements
caught_values : (w r s : List E) (a b : ℕ) → IsFirst (values w) a → IsLast (values w) b → length r ≡ length w → length s ≡ length w →
    (u v ta tb tc : E) (h points : List E) → length h ≡ 5 → AllPairs (λ p q. p ≢ q) (values points) →
    All (PassesAt (sums_of (values w) (values r) (values s)) (record { u = u.value; v = v.value; h = values h; a = ta.value; b = tb.value; c = tc.value })) (values points) →
    (slice_index (values r) a ≡ bad_r (values w) (values r) (values s) a) ⊎ (slice_index (values s) b ≡ bad_s (values w) (values s) a b) ⊎ (length (values points) ≤ 5)
unfolding PassesAt
caught_values w r s a b first last lr ls u v ta tb tc h points five apart passes =
    let size = length-values w in
    let many = length-values points in
    let na : get_or w a z ≢ z = λ e. first.apart (get_or-values w a ∙ ap (λ x. x.value) e) in
    let nb : get_or w b z ≢ z = λ e. last.apart (get_or-values w b ∙ ap (λ x. x.value) e) in
    let alpha : E = add (mul ta tb) tc in
    let distinct : AllPairs (λ p q. p ≢ q) points = λ i j d l m e. apart i j d.value l (omega arith) (get_or-default points i d ∙ ap (λ x. x.value) e ∙ sym (get_or-default points j d)) in
    let up : All (Passes z (element_one 7) add mul (through add mul (gf 2) u (sketch.dot z add mul w r) (sketch.total z add w)) (through add mul (gf 2) v (sketch.dot z add mul w s) (sketch.dot3 z add mul w r s)) h (gf 2) alpha) points =
    λ i d l.
    passes_up (sketch.dot z add mul w r) (sketch.dot z add mul w s) (sketch.total z add w) (sketch.dot3 z add mul w r s) u v alpha (get_or points i d) h
    (subst (λ t. PassesAt t (record { u = u.value; v = v.value; h = values h; a = ta.value; b = tb.value; c = tc.value }) (get_or points i d).value) (sums-values w r s)
    (subst (λ n. PassesAt (sums_of (values w) (values r) (values s)) (record { u = u.value; v = v.value; h = values h; a = ta.value; b = tb.value; c = tc.value }) n) (get_or-default points i d) (passes i d.value (omega arith)))) in
    elim (caught w r s a b (omega (arith, first.inside)) (omega (arith, last.inside)) lr ls na nb u v alpha h points five distinct up) [
      | inl bad ↦ inl (get_or-values r a ∙ ap (λ x. x.value) bad ∙ sym (bad_r-values w r s a))
      | inr (inl bad) ↦ inr (inl (get_or-values s b ∙ ap (λ x. x.value) bad ∙ sym (bad_s-values w s a b)))
      | inr (inr few) ↦ inr (inr (omega arith))
    ]

-- the law on a place each, with any lists of numbers of the field
abbrev pub Caught : List ℕ → List ℕ → List ℕ → ℕ → ℕ → ProofShare → List ℕ → Type 0
Caught w r s a b proof points =
    IsFirst w a → IsLast w b → length r ≡ length w → length s ≡ length w → AllPairs (λ p q. p ≢ q) points → All (PassesAt (sums_of w r s) proof) points →
    (slice_index r a ≡ bad_r w r s a) ⊎ (slice_index s b ≡ bad_s w s a b) ⊎ (length points ≤ 5)

pub caught_numbers : (w r s : List ℕ) (a b : ℕ) (proof : ProofShare) (points : List ℕ) →
    All (λ n. n < 2 ^ 128) w → All (λ n. n < 2 ^ 128) r → All (λ n. n < 2 ^ 128) s → IsProofShare proof → All (λ n. n < 2 ^ 128) points → Caught w r s a b proof points
caught_numbers w r s a b proof points hw hr hs hp hq =
    subst (λ w. Caught w r s a b proof points) (values-elements w hw)
    (subst (λ r. Caught (values (elements w hw)) r s a b proof points) (values-elements r hr)
    (subst (λ s. Caught (values (elements w hw)) (values (elements r hr)) s a b proof points) (values-elements s hs)
    (subst (λ q. Caught (values (elements w hw)) (values (elements r hr)) (values (elements s hs)) a b proof q) (values-elements points hq)
    (subst (λ h. Caught (values (elements w hw)) (values (elements r hr)) (values (elements s hs)) a b (record proof { h = h }) (values (elements points hq))) (values-elements proof.h hp.h)
    (λ first last lr ls apart passes.
    caught_values (elements w hw) (elements r hr) (elements s hs) a b first last
    (sym (length-values (elements r hr)) ∙ lr ∙ length-values (elements w hw)) (sym (length-values (elements s hs)) ∙ ls ∙ length-values (elements w hw))
    (element proof.u hp.u) (element proof.v hp.v) (element proof.a hp.a) (element proof.b hp.b) (element proof.c hp.c) (elements proof.h hp.h) (elements points hq)
    (sym (length-values (elements proof.h hp.h)) ∙ ap length (values-elements proof.h hp.h) ∙ hp.size) apart passes)))))

-- ---- the first and the last place of two or more

-- the law on the first and the last place
pub caught_two : (w r s : List ℕ) (proof : ProofShare) (points : List ℕ) →
    All (λ n. n < 2 ^ 128) w → All (λ n. n < 2 ^ 128) r → All (λ n. n < 2 ^ 128) s → IsProofShare proof → All (λ n. n < 2 ^ 128) points →
    HasTwo w → length r ≡ length w → length s ≡ length w → AllPairs (λ p q. p ≢ q) points → All (PassesAt (sums_of w r s) proof) points →
    IsBadChallenge w r s ⊎ (length points ≤ 5)
caught_two w r s proof points hw hr hs hp hq two lr ls apart passes =
    let first = (first_is w two.0 two.3).0 in
    let last = (last_is w two.1 two.4).0 in
    elim (caught_numbers w r s (first_place w) (last_place w) proof points hw hr hs hp hq first last lr ls apart passes) [
      | inl bad ↦ inl (inl bad)
      | inr (inl bad) ↦ inl (inr bad)
      | inr (inr few) ↦ inr few
    ]

divides : (w s : List E) (a b : ℕ) → IsFirst (values w) a → IsLast (values w) b → length s ≡ length w →
    (bad_r_divisor (values w) (values s) a ≡ 0 → slice_index (values s) b ≡ bad_s (values w) (values s) a b)
    × (slice_index (values s) b ≡ bad_s (values w) (values s) a b → bad_r_divisor (values w) (values s) a ≡ 0)
divides w s a b first last ls =
    let size = length-values w in
    let na : get_or w a z ≢ z = λ e. first.apart (get_or-values w a ∙ ap (λ x. x.value) e) in
    let nb : get_or w b z ≢ z = λ e. last.apart (get_or-values w b ∙ ap (λ x. x.value) e) in
    let zero = divisor_zero (level_laws 7).0 w s a b (omega (arith, last.inside)) (omega (arith, last.inside)) na nb in (
      λ h. get_or-values s b ∙ ap (λ x. x.value) (zero.0 (from_value _ z (sym (divisor-values w s a) ∙ h))) ∙ sym (bad_s-values w s a b),
      λ h. divisor-values w s a ∙ ap (λ x. x.value) (zero.1 (from_value _ _ (sym (get_or-values s b) ∙ h ∙ bad_s-values w s a b))),
    )

abbrev Divides : List ℕ → List ℕ → ℕ → ℕ → Type 0
Divides w s a b =
    IsFirst w a → IsLast w b → length s ≡ length w →
    (bad_r_divisor w s a ≡ 0 → slice_index s b ≡ bad_s w s a b) × (slice_index s b ≡ bad_s w s a b → bad_r_divisor w s a ≡ 0)

-- what divides in the bad value of r is zero exactly where s is bad
pub divides_numbers : (w s : List ℕ) (a b : ℕ) → All (λ n. n < 2 ^ 128) w → All (λ n. n < 2 ^ 128) s → Divides w s a b
divides_numbers w s a b hw hs =
    subst (λ w. Divides w s a b) (values-elements w hw)
    (subst (λ s. Divides (values (elements w hw)) s a b) (values-elements s hs)
    (λ first last ls. divides (elements w hw) (elements s hs) a b first last (sym (length-values (elements s hs)) ∙ ls ∙ length-values (elements w hw))))
