use Rattle.std.proofs.Common.{◌≡◌, take}
use Rattle.tower_laws.specs.Polynomials.{plus_of, scaled_of}
use Rattle.poly_roots.proofs.products.add_scaled.Given as goal

abbrev pub invariant-loop-j : goal.invariant-loop-j
invariant-loop-j g l = l.out ≡ plus_of g.F.Field.sum (scaled_of g.F.Field.product l.c (take l.j l.q)) l.initial.out
