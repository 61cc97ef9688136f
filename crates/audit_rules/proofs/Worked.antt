-- Worked sketches and proofs, computed on the definitions.
use Rattle.std.specs.Prelude.{◌≡◌, ℕ, ◌^◌, ◌<◌, List, [], ◌∷◌, refl, bit_xor}
use Rattle.std.specs.Int.Bits.{xor_assoc, xor_self, xor_zero_l, xor_zero_r}
use Rattle.std.proofs.Common.{◌∙◌, ap, sym}
use Rattle.tower_numbers.specs.Levels.{product_at, twist_at, inverse_at}
use Rattle.tower_laws.specs.Elements.{element_one}
use Rattle.tower_laws.specs.Gf.{gf}
use Rattle.tower_laws.proofs.ElementLaws.{level_laws, element_path}
use Rattle.tower_laws.proofs.Rings.{var, nil, unit, ◌⊕◌, ◌⊗◌, solve}
use Rattle.tower_laws.specs.Polynomials.{times_of}
use Rattle.audit_rules.specs.Audit.{product, value, sums_of, f_of, g_of, bad_s, opening_of, closing_of}
use Rattle.audit_rules.specs.Worked.{verdict, worked_sums, worked_share, worked_opening, worked_closing, ThreeOnesAreCaught, SquaresHideThreeOnes, OneIsTheBadValue, TwoOnesAreHidden, RightProofPasses, WrongConstantIsRefused, WrongTripleHidesAtOnePoint}
use Rattle.audit_rules.proofs.Transfer.{E, add, mul, element}

pub caught : ThreeOnesAreCaught
unfolding sums_of product_at twist_at
caught = (refl, refl)

pub squares : SquaresHideThreeOnes
unfolding sums_of product_at twist_at
squares = (refl, refl)

pub bad : OneIsTheBadValue
unfolding bad_s product_at twist_at inverse_at
bad s1 = refl

-- two ones pass for every r: first of elements of the field, and then of their numbers
hidden_elements : (r0 r1 : E) →
    verdict (1 ∷ (1 ∷ [])) (r0.value ∷ (r1.value ∷ [])) (1 ∷ (1 ∷ [])) ≡ 0
hidden_elements r0 r1 =
    ap (λ (x : E). x.value)
    (solve (level_laws 7).0 (r0 ∷ (r1 ∷ []))
    ((unit ⊗ var 0 ⊕ (unit ⊗ var 1 ⊕ nil)) ⊗ (unit ⊗ unit ⊕ (unit ⊗ unit ⊕ nil))
    ⊕ (unit ⊕ (unit ⊕ nil)) ⊗ (unit ⊗ var 0 ⊗ unit ⊕ (unit ⊗ var 1 ⊗ unit ⊕ nil)))
    nil refl)

pub hidden_verdict : TwoOnesAreHidden
hidden_verdict r0 r1 h0 h1 = hidden_elements (element r0 h0) (element r1 h1)

-- f and g of the worked proof
abbrev f : List ℕ
f = 0 ∷ (0 ∷ (2 ∷ []))

abbrev g : List ℕ
g = 0 ∷ (3 ∷ (0 ∷ []))

f_is : f_of worked_sums (worked_share 0 1) ≡ f
unfolding product_at twist_at
f_is = refl

g_is : g_of worked_sums (worked_share 0 1) ≡ g
unfolding product_at twist_at
g_is = refl

f_by_g : times_of 0 bit_xor product f g ≡ (worked_share 0 1).h
unfolding product_at twist_at
f_by_g = refl

opened : worked_opening 0 1 4 ≡ record { d = 15; e = 6 }
unfolding opening_of product_at twist_at
opened = refl

closed : worked_closing 0 1 4 ≡ record { o = 0; tau = 0 }
unfolding opening_of closing_of product_at twist_at
closed = refl

pub passes : RightProofPasses
passes = record {
  product =
      ap (λ p. times_of 0 bit_xor product p (g_of worked_sums (worked_share 0 1))) f_is
      ∙ ap (λ q. times_of 0 bit_xor product f q) g_is ∙ f_by_g;
  opened = opened;
  closed = closed;
}

pub refused : WrongConstantIsRefused
unfolding opening_of closing_of product_at twist_at
refused = refl

-- a wrong triple hides that at 4 and at no other point: tau at a point is the sum of the point and 4
tau_at : ℕ → ℕ
tau_at sigma = (worked_closing 1 5 sigma).tau

-- the same, from the coefficients of f and g
abbrev tau_from : List ℕ → List ℕ → ℕ → ℕ
tau_from p q sigma =
    let d = bit_xor (value p sigma) 1 in
    let e = bit_xor (product sigma (value q sigma)) 1 in
    bit_xor
    (bit_xor (bit_xor (bit_xor (product d 1) (product e 1)) 5) (product sigma (value (worked_share 1 5).h sigma)))
    (product d e)

from_coefficients : (sigma : ℕ) → tau_at sigma ≡ tau_from f g sigma
unfolding tau_at opening_of closing_of
from_coefficients sigma =
    ap (λ p. tau_from p (g_of worked_sums (worked_share 1 5)) sigma) f_is ∙ ap (λ q. tau_from f q sigma) g_is

two_by_three : mul (gf 2) (gf 3) ≡ element_one 7
unfolding product_at twist_at
two_by_three = element_path 7 (mul (gf 2) (gf 3)) (element_one 7) refl

four_is : add (gf 5) (element_one 7) ≡ gf 4
four_is = element_path 7 (add (gf 5) (element_one 7)) (gf 4) refl

of_elements : (s : E) → tau_from f g s.value ≡ bit_xor s.value 4
of_elements s =
    let laws = (level_laws 7).0 in
    let t = var 1 in let k = var 2 in let p = var 0 in
    let d = nil ⊕ p ⊗ (nil ⊕ p ⊗ (t ⊕ p ⊗ nil)) ⊕ unit in
    let e = p ⊗ (nil ⊕ p ⊗ (k ⊕ p ⊗ (nil ⊕ p ⊗ nil))) ⊕ unit in
    let h = unit ⊕ p ⊗ (nil ⊕ p ⊗ (nil ⊕ p ⊗ (unit ⊕ p ⊗ (nil ⊕ p ⊗ nil)))) in
    let fourth = mul (mul s s) (mul s s) in
    ap (λ (x : E). x.value)
    (solve laws (s ∷ (gf 2 ∷ (gf 3 ∷ (gf 5 ∷ []))))
    (d ⊗ unit ⊕ e ⊗ unit ⊕ var 3 ⊕ p ⊗ h ⊕ d ⊗ e)
    (p ⊕ (var 3 ⊕ unit) ⊕ (p ⊗ p ⊗ (p ⊗ p) ⊕ t ⊗ k ⊗ (p ⊗ p ⊗ (p ⊗ p)))) refl
    ∙ ap (λ x. add (add s x) (add fourth (mul (mul (gf 2) (gf 3)) fourth))) four_is
    ∙ ap (λ x. add (add s (gf 4)) (add fourth (mul x fourth))) two_by_three
    ∙ solve laws (s ∷ (gf 4 ∷ (fourth ∷ []))) (var 0 ⊕ var 1 ⊕ (var 2 ⊕ unit ⊗ var 2)) (var 0 ⊕ var 1) refl)

tau_is : (sigma : ℕ) → sigma < 2 ^ 128 → tau_at sigma ≡ bit_xor sigma 4
tau_is sigma h = from_coefficients sigma ∙ of_elements (element sigma h)

hidden_at_four : tau_at 4 ≡ 0
unfolding tau_at opening_of closing_of product_at twist_at
hidden_at_four = refl

seen_elsewhere : (sigma : ℕ) → sigma < 2 ^ 128 → tau_at sigma ≡ 0 → sigma ≡ 4
seen_elsewhere sigma h none =
    sym (xor_zero_r sigma) ∙ ap (bit_xor sigma) (sym (xor_self 4)) ∙ sym (xor_assoc sigma 4 4)
    ∙ ap (λ n. bit_xor n 4) (sym (tau_is sigma h) ∙ none) ∙ xor_zero_l 4

pub hidden_at_one : WrongTripleHidesAtOnePoint
unfolding tau_at
hidden_at_one sigma h =
    (seen_elsewhere sigma h, λ at. ap tau_at at ∙ hidden_at_four)
