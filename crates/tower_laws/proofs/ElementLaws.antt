-- Each level of numbers is a field and a level of the tower.
use Rattle.std.specs.Prelude.{◌≡◌, ℕ, ◌+◌, ◌*◌, ◌/◌, ◌%◌, ◌^◌, ◌<◌, ◌==◌, true, refl, bit_xor, ◌&&◌}
use Rattle.std.proofs.Common.{zero, suc, sym, ◌∙◌, ap, arith}
use Rattle.std.proofs.Math.Nat.{zero-mod, zero-div, mod-eq_of_lt, div-eq_of_lt, mod_self, div_self}
use borrow.Author.Tests.{eqb-true}
use store.Seg.{eqb_same}
use Rattle.std.proofs.lemmas.Nat.{xor_mod, xor_shr, shr_high, mod_low, shr_split}
use native.Mathlib.Bridge.{le_prop}
use mathlib.Core.HLevel.{is_prop→PathP}
use Rattle.tower_laws.specs.Laws.{FieldLaws, TowerLaws, differ}
use Rattle.tower_laws.specs.Bits.{bit, bit_zero, bit_one, bit_add, bit_mul, bit_inverse}
use Rattle.tower_laws.proofs.BitLaws.{bit_laws, bit_tower_laws}
use Rattle.tower_laws.specs.Quads.{quad, quad_add, quad_mul, quad_inverse}
use Rattle.tower_laws.proofs.QuadLaws.{quad_laws, quad_tower_laws}
use Rattle.tower_laws.proofs.Pulled.{FieldMap, field_pulled, tower_pulled}
use Rattle.tower_laws.specs.declared.quad.Quad.{Quad}
use Rattle.tower_numbers.specs.Levels.{twist_at, product_at, inverse_at, trace_at}
use Rattle.tower_numbers.proofs.Bounds.{half_pos, low_below, high_below, one_below}
use Rattle.tower_laws.specs.Elements.{Element, element_zero, element_one, element_add, element_mul}
use Rattle.tower_laws.specs.Elements.{element_inverse, element_twist, element_eq, element_trace}

pub element_path : (k : ℕ) (x y : Element k) → x.value ≡ y.value → x ≡ y
element_path k x y h = λ i. record { value = h i; in_range = is_prop→PathP (λ j. h j < 2 ^ (2 ^ k)) (λ j. le_prop) x.in_range y.in_range i }

-- a number of level k + 1 by its halves
abbrev pub halves : (k : ℕ) → Element (suc k) → Quad (Element k)
halves k x = quad (record { value = x.value % 2 ^ (2 ^ k); in_range = low_below k x.value }) (record { value = x.value / 2 ^ (2 ^ k); in_range = high_below k x.value x.in_range })

pair_path : (k : ℕ) (a b c d : Element k) → a.value ≡ c.value → b.value ≡ d.value → quad a b ≡ quad c d
pair_path k a b c d p q = let low = element_path k a c p in let high = element_path k b d q in cc

halves_map : (k : ℕ) →
    FieldMap (halves k) (element_zero (suc k)) (element_one (suc k)) (element_add (suc k)) (element_mul (suc k)) (element_inverse (suc k))
    (quad (element_zero k) (element_zero k)) (quad (element_one k) (element_zero k)) (quad_add (element_add k)) (quad_mul (element_add k) (element_mul k) (element_twist k))
    (quad_inverse (element_add k) (element_mul k) (element_inverse k) (element_twist k))
unfolding product_at inverse_at
halves_map k = record {
  injective = λ x y h. element_path (suc k) x y
      (sym (shr_split x.value (2 ^ k)) ∙ ap (λ q. q.high.value * 2 ^ (2 ^ k) + q.low.value) h ∙ shr_split y.value (2 ^ k));
  at_zero = pair_path k _ _ _ _ (zero-mod (2 ^ (2 ^ k))) (zero-div (2 ^ (2 ^ k)));
  at_one = pair_path k _ _ _ _ (mod-eq_of_lt (one_below k)) (div-eq_of_lt (one_below k));
  at_add = λ x y. pair_path k _ _ _ _ (xor_mod x.value y.value (2 ^ k)) (xor_shr x.value y.value (2 ^ k));
  at_mul = λ x y.
      let q = quad_mul (element_add k) (element_mul k) (element_twist k) (halves k x) (halves k y) in
      pair_path k _ _ _ _ (mod_low _ (2 ^ k) _ q.low.in_range) (shr_high _ (2 ^ k) _ q.low.in_range);
  at_inverse = λ x.
      let q = quad_inverse (element_add k) (element_mul k) (element_inverse k) (element_twist k) (halves k x) in
      pair_path k _ _ _ _ (mod_low _ (2 ^ k) _ q.low.in_range) (shr_high _ (2 ^ k) _ q.low.in_range);
}

-- ---- level 0 is the bits
xor_bits : (a b : ℕ) → a < 2 → b < 2 → (bit_xor a b == 1) ≡ differ (a == 1) (b == 1)
xor_bits zero zero h i = refl
xor_bits zero (suc zero) h i = refl
xor_bits (suc zero) zero h i = refl
xor_bits (suc zero) (suc zero) h i = refl
xor_bits (suc (suc a)) b h i = absurd (omega arith)
xor_bits a (suc (suc b)) h i = absurd (omega arith)

and_bits : (a b : ℕ) → a < 2 → b < 2 → (a * b == 1) ≡ ((a == 1) && (b == 1))
and_bits zero zero h i = refl
and_bits zero (suc zero) h i = refl
and_bits (suc zero) zero h i = refl
and_bits (suc zero) (suc zero) h i = refl
and_bits (suc (suc a)) b h i = absurd (omega arith)
and_bits a (suc (suc b)) h i = absurd (omega arith)

same_bits : (a b : ℕ) → a < 2 → b < 2 → (a == 1) ≡ (b == 1) → a ≡ b
same_bits zero zero h i e = refl
same_bits zero (suc zero) h i e = cc
same_bits (suc zero) zero h i e = cc
same_bits (suc zero) (suc zero) h i e = refl
same_bits (suc (suc a)) b h i e = absurd (omega arith)
same_bits a (suc (suc b)) h i e = absurd (omega arith)

bit_map : FieldMap (λ (x : Element 0). bit (x.value == 1)) (element_zero 0) (element_one 0) (element_add 0) (element_mul 0) (element_inverse 0) bit_zero bit_one bit_add bit_mul bit_inverse
unfolding product_at inverse_at
bit_map = record {
  injective = λ x y h. element_path 0 x y (same_bits x.value y.value x.in_range y.in_range (ap (λ b. b.0) h));
  at_zero = refl;
  at_one = refl;
  at_add = λ x y. ap bit (xor_bits x.value y.value x.in_range y.in_range);
  at_mul = λ x y. ap bit (and_bits x.value y.value x.in_range y.in_range);
  at_inverse = λ x. refl;
}

-- ---- every level
abbrev FieldOf : ℕ → Type 0
FieldOf k = FieldLaws (element_zero k) (element_one k) (element_add k) (element_mul k) (element_inverse k) (element_eq k)

abbrev TowerOf : ℕ → Type 0
TowerOf k = TowerLaws (element_add k) (element_mul k) (element_inverse k) (element_twist k) (element_trace k)

element_eq_self : (k : ℕ) (x : Element k) → element_eq k x x ≡ true
element_eq_self k x = eqb_same x.value

element_from_eq : (k : ℕ) (x y : Element k) → element_eq k x y ≡ true → x ≡ y
element_from_eq k x y h = element_path k x y (eqb-true x.value y.value h)

pub level_laws : (k : ℕ) → FieldOf k × TowerOf k
unfolding twist_at trace_at
level_laws zero = (field_pulled bit_map bit_laws (element_eq_self 0) (element_from_eq 0), tower_pulled bit_map bit_tower_laws refl (λ x. refl))
level_laws (suc k) =
    let below = level_laws k in (
      field_pulled (halves_map k) (quad_laws below.0 below.1) (element_eq_self (suc k)) (element_from_eq (suc k)),
      tower_pulled (halves_map k) (quad_tower_laws below.0 below.1) (pair_path k _ _ _ _ (mod_self (2 ^ (2 ^ k))) (div_self (half_pos k))) (λ x. refl),
    )
