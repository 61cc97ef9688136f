use Rattle.std.proofs.Common.{ap, ◌∙◌, arith}
use Rattle.std.proofs.lemmas.List.Elements.{All-set}
use Rattle.frame_rules.specs.Frames.{plain}
use Rattle.step_rules.specs.HelperClients.{if_lane}
use Rattle.helper_core.specs.declared.taken.ClientBody.{ClientBody}
use Rattle.helper_core.specs.declared.taken.ClientBody.TheVariants as taken
use Rattle.helper_core.specs.Slots.{row_with, taken_row, IsHelperSlot}
use Rattle.helper_core.proofs.RowLemmas.{lane_refused, lane_turn}
use Rattle.helper_core.proofs.rows.at_lane.Goals as goal

pub returns-then-frame-lanes-clause-turn : goal.returns-then-frame-lanes-clause-turn
returns-then-frame-lanes-clause-turn c h is =
    lane_refused h (plain c.args.frame.now) c.args.slots.now c.args.lanes (taken_row h (plain c.args.frame.now) c.args.brought.now) is c.if-frame-lanes.true

pub returns-in-Deposit-clause-turn : goal.returns-in-Deposit-clause-turn
returns-in-Deposit-clause-turn c h is =
    ap (λ (b : ClientBody). if_lane h (plain c.args.frame.now) (taken_row h (plain c.args.frame.now) b)) c.in-Deposit.is
    ∙ lane_turn h (plain c.args.frame.now) c.args.slots.now c.args.lanes c.from.result c.deposit.new.self c.index-slots-from.result (λ r. row_with r c.args.frame.now.serial (taken.Deposit c.in-Deposit.held)) _
    is c.requires.lanes (omega arith) c.from.ensures c.deposit.ensures.row c.deposit.ensures.body

pub returns-in-Proof-clause-turn : goal.returns-in-Proof-clause-turn
returns-in-Proof-clause-turn c h is =
    ap (λ (b : ClientBody). if_lane h (plain c.args.frame.now) (taken_row h (plain c.args.frame.now) b)) c.in-Proof.is
    ∙ lane_turn h (plain c.args.frame.now) c.args.slots.now c.args.lanes c.from.result c.prove.new.self c.index-slots-from.result (λ r. row_with r c.args.frame.now.serial (taken.Proof c.in-Proof.share)) _
    is c.requires.lanes (omega arith) c.from.ensures c.prove.ensures.row c.prove.ensures.body

pub returns-in-Deposit-clause-slots : goal.returns-in-Deposit-clause-slots
returns-in-Deposit-clause-slots c width limit addresses all =
    All-set (IsHelperSlot width limit addresses) c.args.slots.now c.from.result c.deposit.new.self
    (c.deposit.ensures.is_slot addresses width limit (all c.from.result c.index-slots-from.result (omega arith))) all

pub returns-in-Proof-clause-slots : goal.returns-in-Proof-clause-slots
returns-in-Proof-clause-slots c width limit addresses all =
    All-set (IsHelperSlot width limit addresses) c.args.slots.now c.from.result c.prove.new.self
    (c.prove.ensures.is_slot addresses width limit (all c.from.result c.index-slots-from.result (omega arith))) all
