use Rattle.std.proofs.Common.{◌≡◌, take, length}
use Rattle.tower_laws.specs.Polynomials.{scaled_of}
use Rattle.poly_roots.proofs.products.put_scaled.Given as goal

abbrev pub invariant-loop-j : goal.invariant-loop-j
invariant-loop-j g l = record { room : length l.out ≡ length l.q; done : take l.j l.out ≡ scaled_of g.F.Field.product l.c (take l.j l.q) }
