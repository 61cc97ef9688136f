-- Level 0 is a field and a level of the tower.
use Rattle.std.specs.Prelude.{◌≡◌, Bool, true, false, ◌&&◌, refl}
use Rattle.std.proofs.Common.{ap}
use Rattle.tower_laws.specs.Laws.{FieldLaws, TowerLaws, differ}
use Rattle.tower_laws.specs.Bits.{bit, bit_zero, bit_one, bit_add, bit_mul, bit_inverse, bit_trace, bit_eq}

differ_comm : (a b : Bool) → differ a b ≡ differ b a
differ_comm true true = refl
differ_comm true false = refl
differ_comm false true = refl
differ_comm false false = refl

differ_false : (a : Bool) → differ a false ≡ a
differ_false true = refl
differ_false false = refl

pub differ_self : (a : Bool) → differ a a ≡ false
differ_self true = refl
differ_self false = refl

differ_assoc : (a b c : Bool) → differ (differ a b) c ≡ differ a (differ b c)
differ_assoc true true true = refl
differ_assoc true true false = refl
differ_assoc true false true = refl
differ_assoc true false false = refl
differ_assoc false true true = refl
differ_assoc false true false = refl
differ_assoc false false true = refl
differ_assoc false false false = refl

and_comm : (a b : Bool) → (a && b) ≡ (b && a)
and_comm true true = refl
and_comm true false = refl
and_comm false true = refl
and_comm false false = refl

and_assoc : (a b c : Bool) → ((a && b) && c) ≡ (a && (b && c))
and_assoc true b c = refl
and_assoc false b c = refl

and_true : (a : Bool) → (a && true) ≡ a
and_true true = refl
and_true false = refl

and_differ : (a b c : Bool) → (a && differ b c) ≡ differ (a && b) (a && c)
and_differ true b c = refl
and_differ false b c = refl

and_self : (a : Bool) → (a && a) ≡ a
and_self true = refl
and_self false = refl

one_of : (a : Bool) → (a ≡ false → ⊥) → (a && a) ≡ true
one_of true n = refl
one_of false n = absurd (n refl)

bit_eq_self : (a : Bool) → bit_eq a a ≡ true
bit_eq_self true = refl
bit_eq_self false = refl

from_bit_eq : (a b : Bool) → bit_eq a b ≡ true → a ≡ b
from_bit_eq true true h = refl
from_bit_eq true false h = cc
from_bit_eq false true h = cc
from_bit_eq false false h = refl

false_true : true ≡ false → ⊥
false_true h = cc

pub bit_laws : FieldLaws bit_zero bit_one bit_add bit_mul bit_inverse (λ x y. bit_eq x.0 y.0)
bit_laws = record {
  add_comm = λ x y. ap bit (differ_comm x.0 y.0);
  add_assoc = λ x y w. ap bit (differ_assoc x.0 y.0 w.0);
  add_zero = λ x. ap bit (differ_false x.0);
  add_self = λ x. ap bit (differ_self x.0);
  mul_comm = λ x y. ap bit (and_comm x.0 y.0);
  mul_assoc = λ x y w. ap bit (and_assoc x.0 y.0 w.0);
  mul_one = λ x. ap bit (and_true x.0);
  distributes = λ x y w. ap bit (and_differ x.0 y.0 w.0);
  apart = λ h. false_true (ap (λ x. x.0) h);
  inverts = λ x n. ap bit (one_of x.0 (λ h. n (ap bit h)));
  eq_self = λ x. bit_eq_self x.0;
  from_eq = λ x y h. ap bit (from_bit_eq x.0 y.0 h);
}

pub bit_tower_laws : TowerLaws bit_add bit_mul bit_inverse bit_one bit_trace
bit_tower_laws = record {
  trace_add = λ x y. refl;
  trace_square = λ x. and_self x.0;
  trace_twist = refl;
  trace_inverse = refl;
}
