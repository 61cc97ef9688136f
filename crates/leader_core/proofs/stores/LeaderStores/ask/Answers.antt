use Rattle.std.proofs.Common.{◌∙◌}
use Rattle.frame_rules.specs.Frames.{plain}
use Rattle.step_rules.specs.LeaderClients.{issued_for}
use Rattle.leader_core.specs.Asked.{asked_with}
use Rattle.leader_core.specs.State.{leader_in}
use Rattle.leader_core.proofs.DoesLemmas.{said_does, said_none}
use Rattle.leader_core.proofs.stores.LeaderStores.ask.Goals as goal

pub returns-in-Some-room-clause-does : goal.returns-in-Some-room-clause-does
returns-in-Some-room-clause-does c =
    let a = leader_in c.args.self.now in
    let f = plain c.args.frame.now in
    let asked = asked_with c.args.asked c.args.part.now in
    said_does c.args.self.now f c.in-Some-room.said _ c.tell-in-Some-room.result c.args.out.now c.tell-in-Some-room.new.out c.requires.is
    (c.in_default.ensures.turn asked (c.want.ensures c.args.part.now) ∙ c.in-Some-room.ensures.turn f (issued_for a f asked))
    (c.tell-in-Some-room.ensures a)

pub returns-in-Some-room-clause-none : goal.returns-in-Some-room-clause-none
returns-in-Some-room-clause-none c =
    let a = leader_in c.args.self.now in
    let f = plain c.args.frame.now in
    let asked = asked_with c.args.asked c.args.part.now in
    said_none a f c.in-Some-room.said _ (c.in_default.ensures.turn asked (c.want.ensures c.args.part.now) ∙ c.in-Some-room.ensures.turn f (issued_for a f asked))
