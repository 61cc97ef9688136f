-- A bit as a test.
use Rattle.std.proofs.Common.{◌≡◌, ℕ, ◌<◌, zero, suc, refl, arith, eqb, true, false, Bool}
use Rattle.std.specs.Int.{from_bool}

-- a bit as the test that it is 1
pub bit_as_bool : (x : ℕ) → x < 2 → x ≡ from_bool (eqb x 1)
bit_as_bool zero h = refl
bit_as_bool (suc zero) h = refl
bit_as_bool (suc (suc n)) h = absurd (omega arith)

pub from_bool_lt : (b : Bool) → from_bool b < 2
from_bool_lt true = omega arith
from_bool_lt false = omega arith
