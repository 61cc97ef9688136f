use Rattle.std.proofs.Common.{◌≡◌, ◌≤◌, length, drop}
use Rattle.tower_laws.specs.Polynomials.{value_at}
use Rattle.poly_roots.proofs.values.eval.Given as goal

abbrev pub invariant-loop-left : goal.invariant-loop-left
invariant-loop-left g l = let f = g.F.Field in (l.left ≤ length l.p) × (l.value ≡ value_at f.neutral f.sum f.product (drop l.left l.p) l.at)

abbrev pub decreases-loop-left : goal.decreases-loop-left
decreases-loop-left g l = l.left
