-- The sums of two parts of a list of boxes.
use Rattle.std.specs.Prelude.{bit_xor}
use Rattle.audit_rules.specs.declared.sums.Sums.{Sums}

-- the sums of both parts together
abbrev pub sums_with : Sums → Sums → Sums
sums_with a b =
    record { x = bit_xor a.x b.x; y = bit_xor a.y b.y; m = bit_xor a.m b.m; z = bit_xor a.z b.z }
