use Rattle.many_conns.proofs.BatchLaws.{offered_no, offered_same, heard_all, heard_none}
use Rattle.many_conns.proofs.filling.offer_all.Goals as goal

pub returns-in-Some : goal.returns-in-Some
returns-in-Some g c =
    let rules = g.S.Answering.rules in
    offered_same rules c.args.server.now c.args.place _ _ _ _ _ _ _ c.door.ensures
    (heard_all rules.whole c.args.from.now c.door.result _ c.door.ensures c.in-Some.ensures.held c.in-Some.ensures.heard) c.offer_frames.ensures

pub returns-in-None : goal.returns-in-None
returns-in-None g c =
    let rules = g.S.Answering.rules in
    offered_no rules c.args.server.now c.args.place c.args.from.now.door _ c.args.batch.now
    (heard_none rules.whole c.args.from.now c.in-None.ensures.heard)
