use Rattle.std.proofs.Common.{◌≡◌, take, bit_xor}
use Rattle.audit_rules.specs.Sketch.{total}
use Rattle.write_sketch.proofs.batch.total_of.Given as goal

abbrev pub invariant-loop-i : goal.invariant-loop-i
invariant-loop-i l = l.total ≡ total 0 bit_xor (take l.i l.states)
