-- The coefficients that `through3` makes step by step, and their values at 0, 1 and 2.
use Rattle.std.specs.Prelude.{◌≡◌, ℕ, ◌^◌, ◌<◌, List, [], ◌∷◌, bit_xor}
use Rattle.std.proofs.Common.{ap, ◌∙◌}
use Rattle.tower_numbers.specs.Levels.{product_at}
use Rattle.tower_laws.specs.Elements.{Element, element_add, element_mul}
use Rattle.tower_laws.proofs.ElementLaws.{level_laws}
use Rattle.tower_laws.specs.Gf.{gf, values}
use Rattle.tower_laws.proofs.GfLaws.{gf_value, gf_two}
use Rattle.tower_laws.specs.Polynomials.{value_at}
use Rattle.tower_laws.specs.Through.{through}
use Rattle.tower_laws.proofs.ThroughLaws.{through_zero, through_one, through_two}

abbrev pub through_of : ℕ → ℕ → ℕ → List (Element 7)
through_of u x m = through (element_add 7) (element_mul 7) (gf 2) (gf u) (gf x) (gf m)

pub made : (u x m : ℕ) {change outer doubled square slope : Element 7} {c0 c1 c2 : ℕ} →
    change ≡ element_add 7 (gf u) (gf x) → outer ≡ element_add 7 (gf u) (gf m) → doubled ≡ element_mul 7 (gf 2) change → square ≡ element_add 7 outer doubled → slope ≡ element_add 7 square change →
    c0 ≡ (gf u).value → c1 ≡ slope.value → c2 ≡ square.value →
    c0 ∷ (c1 ∷ (c2 ∷ [])) ≡ values (through_of u x m)
made u x m a b c d e f g h = cc

module _ (u x m : ℕ) (p : List ℕ) (is : p ≡ values (through_of u x m)) where
  pub at_zero : u < 2 ^ 128 → value_at 0 bit_xor (product_at 7) p 0 ≡ u
  at_zero h =
      ap (λ p. value_at 0 bit_xor (product_at 7) p 0) is
      ∙ ap (λ e. e.value) (through_zero (level_laws 7).0 (gf 2) gf_two (gf u) (gf x) (gf m)) ∙ gf_value u h

  pub at_one : x < 2 ^ 128 → value_at 0 bit_xor (product_at 7) p 1 ≡ x
  at_one h =
      ap (λ p. value_at 0 bit_xor (product_at 7) p 1) is
      ∙ ap (λ e. e.value) (through_one (level_laws 7).0 (gf 2) gf_two (gf u) (gf x) (gf m)) ∙ gf_value x h

  pub at_two : m < 2 ^ 128 → value_at 0 bit_xor (product_at 7) p 2 ≡ m
  at_two h =
      ap (λ p. value_at 0 bit_xor (product_at 7) p 2) is
      ∙ ap (λ e. e.value) (through_two (level_laws 7).0 (gf 2) gf_two (gf u) (gf x) (gf m)) ∙ gf_value m h
