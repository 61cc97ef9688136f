use Rattle.std.proofs.Common.{◌<◌, ◌^◌, subst, ap, ◌∙◌, sym, arith}
use Rattle.tower_numbers.specs.Levels.{product_at, twist_at}
use Rattle.tower_laws.proofs.Products.{one_times}
use Rattle.tower_field.proofs.Shifts.{twisted_above}
use Rattle.tower_field.proofs.halves.+twisted.Goals as goal

pub returns-then-level-eq0-clause-value : goal.returns-then-level-eq0-clause-value
unfolding twist_at
returns-then-level-eq0-clause-value t c =
    let bit : c.args.a < 2 ^ (2 ^ 0) = subst (λ n. c.args.a < 2 ^ (2 ^ n)) c.if-level-eq0.true c.requires.a in
    sym (ap (λ n. product_at n (twist_at n) c.args.a) c.if-level-eq0.true ∙ one_times 0 c.args.a bit)

pub returns-clause-value : goal.returns-clause-value
returns-clause-value t c = let above : 0 < c.args.level = omega arith in let step = twisted_above c.args.level c.args.a above c.requires.a in cc
