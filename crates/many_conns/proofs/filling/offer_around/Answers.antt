use Rattle.std.proofs.Common.{false, sym, ap, ◌∙◌, subst, Some, None, arith}
use Rattle.many_conns.specs.Batches.{Offered, whole_from}
use Rattle.many_conns.proofs.BatchLaws.{offered_then, offered_more, line_beyond}
use Rattle.many_conns.proofs.filling.offer_around.Goals as goal

pub returns-then-places-turn : goal.returns-then-places-turn
returns-then-places-turn g c =
    let rules = g.S.Answering.rules in
    let server = c.args.server.now in
    subst (λ xs. Offered rules.is_dear xs c.args.batch.now c.offer_each.new.batch c.offer_each.result)
    (sym (line_beyond rules server c.args.turn c.args.places.now c.if-places-turn.true)) c.offer_each.ensures

pub returns-in-Some : goal.returns-in-Some
returns-in-Some g c =
    let rules = g.S.Answering.rules in
    let server = c.args.server.now in
    offered_more rules.is_dear _ _ _ _ _
    (subst (λ xs. Offered rules.is_dear (whole_from rules server false c.args.turn xs) c.args.batch.now c.offer_each-2.new.batch (Some c.in-Some.place)) c.split_at.ensures.back
    c.in-Some.ensures)

pub returns-in-None : goal.returns-in-None
returns-in-None g c =
    let rules = g.S.Answering.rules in
    let server = c.args.server.now in
    offered_then rules.is_dear _ _ _ _ _ _
    (subst (λ xs. Offered rules.is_dear (whole_from rules server false c.args.turn xs) c.args.batch.now c.offer_each-2.new.batch None) c.split_at.ensures.back
    c.in-None.ensures)
    (subst (λ xs. Offered rules.is_dear (whole_from rules server false 0 xs) c.offer_each-2.new.batch c.offer_each-in-None.new.batch c.offer_each-in-None.result) c.split_at.ensures.front
    c.offer_each-in-None.ensures)
