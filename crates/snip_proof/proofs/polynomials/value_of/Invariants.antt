use Rattle.std.proofs.Common.{◌≡◌, ◌≤◌, length, drop}
use Rattle.audit_rules.specs.Audit.{value}
use Rattle.snip_proof.proofs.polynomials.value_of.Given as goal

abbrev pub invariant-loop-left : goal.invariant-loop-left
invariant-loop-left l = (l.left ≤ length l.p) × (l.value ≡ value (drop l.left l.p) l.at)

abbrev pub decreases-loop-left : goal.decreases-loop-left
decreases-loop-left l = l.left
