use Rattle.std.proofs.Common.{◌≡◌, ◌+◌, ◌<◌, drop, length}
use Rattle.tower_laws.specs.Polynomials.{times_of}
use Rattle.poly_roots.proofs.products.times.Given as goal

abbrev pub invariant-loop-left : goal.invariant-loop-left
invariant-loop-left g l =
    record {
      inside : l.left < length l.p;
      room : length l.out + 1 ≡ length l.p + length l.q;
      done : drop l.left l.out ≡ times_of g.F.Field.neutral g.F.Field.sum g.F.Field.product (drop l.left l.p) l.q;
    }

abbrev pub decreases-loop-left : goal.decreases-loop-left
decreases-loop-left g l = l.left
