-- Level 0: one bit.
use Rattle.std.specs.Prelude.{Bool, true, false, ◌&&◌}
use Rattle.tower_laws.specs.Laws.{differ}
use Rattle.tower_laws.specs.declared.bit.Bit.{Bit}

abbrev pub bit : Bool → Bit
bit b = record { 0 = b }

abbrev pub bit_zero : Bit
bit_zero = bit false

abbrev pub bit_one : Bit
bit_one = bit true

abbrev pub bit_add : Bit → Bit → Bit
bit_add x y = bit (differ x.0 y.0)

abbrev pub bit_mul : Bit → Bit → Bit
bit_mul x y = bit (x.0 && y.0)

abbrev pub bit_inverse : Bit → Bit
bit_inverse x = x

abbrev pub bit_trace : Bit → Bool
bit_trace x = x.0

abbrev pub bit_eq : Bool → Bool → Bool
bit_eq true true = true
bit_eq true false = false
bit_eq false true = false
bit_eq false false = true
