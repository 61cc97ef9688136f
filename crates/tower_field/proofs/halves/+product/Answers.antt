use Rattle.std.proofs.Common.{◌<◌, ap, sym, arith}
use Rattle.tower_numbers.specs.Levels.{product_at}
use Rattle.tower_field.proofs.Shifts.{by_three_above}
use Rattle.tower_field.proofs.halves.+product.Goals as goal

pub returns-then-level-eq0-clause-value : goal.returns-then-level-eq0-clause-value
unfolding product_at
returns-then-level-eq0-clause-value t c = sym (ap (λ n. product_at n c.args.a c.args.b) c.if-level-eq0.true)

pub returns-clause-value : goal.returns-clause-value
returns-clause-value t c = let above : 0 < c.args.level = omega arith in let step = by_three_above c.args.level c.args.a c.args.b above c.requires.a c.requires.b in cc
