use Rattle.std.proofs.Common.{refl, sym, ap, subst, ◌∙◌, arith}
use Rattle.frame_rules.specs.Frames.{plain}
use Rattle.step_rules.specs.Boxes.{addresses_of}
use Rattle.step_rules.specs.LeaderClients.{if_room, issued_for}
use Rattle.leader_core.specs.Asked.{named_in}
use Rattle.leader_core.specs.Saying.{said_in}
use Rattle.leader_core.specs.Slots.{row_in, IsLeaderSlot}
use Rattle.leader_core.specs.State.{leader_in}
use Rattle.leader_core.proofs.ClientLemmas.{lane_refused, lane_there, row_of}
use Rattle.leader_core.proofs.stores.LeaderStores.admit.Goals as goal

pub returns-then-frame-self-clause-turn : goal.returns-then-frame-self-clause-turn
returns-then-frame-self-clause-turn c asked want =
    lane_refused (leader_in c.args.self.now) (plain c.args.frame.now) asked (named_in c.args.named) c.if-frame-self.true
    ∙ ap (said_in (leader_in c.args.self.now) (plain c.args.frame.now)) (sym c.refused.ensures)

pub returns-in-Some-clause-turn : goal.returns-in-Some-clause-turn
returns-in-Some-clause-turn c asked want =
    let row = row_of c.args.self.now.slots.items c.from.result c.args.frame.now.lane c.index.result.now (omega arith) c.from.ensures ∙ ap row_in (sym c.index.ensures) in
    lane_there (leader_in c.args.self.now) (plain c.args.frame.now) asked (named_in c.args.named) (row_in c.index.result.now) c.args.want (omega arith) row want
    ∙ c.in-Some.ensures.turn (leader_in c.args.self.now) (plain c.args.frame.now) asked (named_in c.args.named) row

pub returns-in-Some-clause-said : goal.returns-in-Some-clause-said
returns-in-Some-clause-said c =
    let i = c.args.self.now in
    c.in-Some.ensures.said i.settings.width i.settings.boxes _ (subst (IsLeaderSlot i.settings.width i.settings.boxes (addresses_of i.boxes.boxes)) (sym c.index.ensures) (c.requires.is.server.rows c.from.result c.index.result.now (omega arith)))

pub returns-in-None-clause-turn : goal.returns-in-None-clause-turn
returns-in-None-clause-turn c asked want =
    let row = row_of c.args.self.now.slots.items c.from.result c.args.frame.now.lane c.index.result.now (omega arith) c.from.ensures ∙ ap row_in (sym c.index.ensures) in
    let a = leader_in c.args.self.now in
    lane_there a (plain c.args.frame.now) asked (named_in c.args.named) (row_in c.index.result.now) c.args.want (omega arith) row want
    ∙ (c.in-None.ensures.turn a (plain c.args.frame.now) asked (named_in c.args.named) row
    ∙ c.named_box.ensures.turn a refl (if_room a (plain c.args.frame.now) (issued_for a (plain c.args.frame.now) asked)))
