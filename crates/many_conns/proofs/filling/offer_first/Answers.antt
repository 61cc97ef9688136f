use Rattle.std.proofs.Common.{sym, ap}
use Rattle.many_conns.specs.Places.{one_if}
use Rattle.many_conns.proofs.BatchLaws.{offered_no, offered_same, offered_by}
use Rattle.many_conns.proofs.filling.offer_first.Goals as goal

pub returns-in-Some : goal.returns-in-Some
returns-in-Some g c =
    let rules = g.S.Answering.rules in
    offered_same rules c.args.server.now c.args.place _ _ _ _ _ _ _ c.door.ensures (ap one_if c.in-Some.ensures.frame)
    (offered_by rules c.args.server.now c.args.place c.door.result _ _ _ _ c.offer_frame.ensures.fits c.offer_frame.ensures.offered)

pub returns-in-None : goal.returns-in-None
returns-in-None g c =
    let rules = g.S.Answering.rules in
    offered_no rules c.args.server.now c.args.place c.args.from.now.door _ c.args.batch.now (sym (ap one_if c.in-None.ensures.frame))
