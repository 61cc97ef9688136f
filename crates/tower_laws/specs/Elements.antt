-- The numbers of a level, with the operations on them.
use Rattle.std.specs.Prelude.{ℕ, ◌^◌, ◌<◌, ◌==◌, Bool, bit_xor}
use Rattle.std.proofs.lemmas.Nat.{xor_lt}
use Rattle.tower_numbers.specs.Levels.{twist_at, product_at, inverse_at, trace_at}
use Rattle.tower_numbers.proofs.Bounds.{half_pos, twist_below, product_below, inverse_below, one_below}

-- the numbers of a level
pub record Element (k : ℕ) : Type 0 where
  pub value : ℕ
  pub in_range : value < 2 ^ (2 ^ k)

abbrev pub element_zero : (k : ℕ) → Element k
element_zero k = record { value = 0; in_range = half_pos k }

abbrev pub element_one : (k : ℕ) → Element k
element_one k = record { value = 1; in_range = one_below k }

abbrev pub element_add : (k : ℕ) → Element k → Element k → Element k
element_add k x y =
    record {
      value = bit_xor x.value y.value;
      in_range = xor_lt (2 ^ k) x.value y.value x.in_range y.in_range;
    }

abbrev pub element_mul : (k : ℕ) → Element k → Element k → Element k
element_mul k x y =
    record {
      value = product_at k x.value y.value;
      in_range = product_below k x.value y.value x.in_range y.in_range;
    }

abbrev pub element_inverse : (k : ℕ) → Element k → Element k
element_inverse k x = record { value = inverse_at k x.value; in_range = inverse_below k x.value x.in_range }

abbrev pub element_twist : (k : ℕ) → Element k
element_twist k = record { value = twist_at k; in_range = twist_below k }

abbrev pub element_eq : (k : ℕ) → Element k → Element k → Bool
element_eq k x y = x.value == y.value

abbrev pub element_trace : (k : ℕ) → Element k → Bool
element_trace k x = trace_at k x.value
