use Rattle.std.proofs.Common.{sym, ap, ◌∙◌, ◌+◌, subst, Some, None}
use Rattle.many_conns.specs.Batches.{Offered, whole_from}
use Rattle.many_conns.proofs.ListLaws.{whole_from-more, whole_from-split}
use Rattle.many_conns.proofs.BatchLaws.{offered_then, offered_more}
use Rattle.many_conns.proofs.filling.offer_each.Goals as goal

pub returns-then-not-offer_one : goal.returns-then-not-offer_one
returns-then-not-offer_one g c =
    let rules = g.S.Answering.rules in
    let server = c.args.server.now in
    let places = c.args.places.now in
    let place = c.loop-place.place in
    let full = Some (c.args.base + place) in
    subst (λ xs. Offered rules.is_dear xs c.args.batch.now c.offer_one.new.batch full)
    (sym (whole_from-split rules server c.args.peers c.args.base places (place + 1)).1)
    (offered_more rules.is_dear _ _ _ _ _
    (subst (λ xs. Offered rules.is_dear xs c.args.batch.now c.offer_one.new.batch full)
    (sym (whole_from-more rules server c.args.peers c.args.base places place c.index-places-place.result c.loop-place-test.true c.index-places-place.is))
    (offered_then rules.is_dear _ _ _ _ _ _ c.loop-place.invariant c.if-not-offer_one.ensures)))

pub loop-place-preserved : goal.loop-place-preserved
loop-place-preserved g c =
    let rules = g.S.Answering.rules in
    let server = c.args.server.now in
    subst (λ xs. Offered rules.is_dear xs c.args.batch.now c.offer_one.new.batch None)
    (sym (whole_from-more rules server c.args.peers c.args.base c.args.places.now c.loop-place.place c.index-places-place.result c.loop-place-test.true c.index-places-place.is))
    (offered_then rules.is_dear _ _ _ _ _ _ c.loop-place.invariant c.if-not-offer_one.ensures)
