use Rattle.std.proofs.Common.{sym, ◌∙◌, ap, arith}
use Rattle.many_conns.specs.Routes.{place_when}
use Rattle.many_conns.proofs.RouteLaws.{dialled_first, nonzero}
use Rattle.many_conns.proofs.routing.dialled.Goals as goal

pub returns-then-is_linked : goal.returns-then-is_linked
returns-then-is_linked c =
    ap (λ b. place_when b 0) (sym c.if-is_linked.true) ∙ dialled_first c.args.places.now.items c.index.result.now c.is_linked.result
    (let some = nonzero _ c.if-is_empty.ensures in omega arith) c.index.ensures c.is_linked.ensures

pub returns-else-is_linked : goal.returns-else-is_linked
returns-else-is_linked c =
    ap (λ b. place_when b 0) (sym c.if-is_linked.false) ∙ dialled_first c.args.places.now.items c.index.result.now c.is_linked.result
    (let some = nonzero _ c.if-is_empty.ensures in omega arith) c.index.ensures c.is_linked.ensures
