use Rattle.std.proofs.Common.{◌≡◌, ◌<◌, ◌+◌, length, get_or, sym, ap, subst, ◌∙◌, arith}
use Rattle.dpf_rules.specs.Evaluation.{prefix_count}
use Rattle.frame_rules.specs.Frames.{plain}
use Rattle.server_boxes.specs.Held.{write_in}
use Rattle.step_rules.specs.Boxes.{addresses_of}
use Rattle.step_rules.specs.Leader as steps
use Rattle.step_rules.specs.LeaderClients.{audits}
use Rattle.leader_core.specs.declared.slot.LeaderSlot.{LeaderSlot}
use Rattle.leader_core.specs.declared.slot.LeaderStage.{LeaderStage}
use Rattle.leader_core.specs.Saying.{said_in}
use Rattle.leader_core.specs.Slots.{row_in, stage_with, IsLeaderSlot}
use Rattle.leader_core.specs.State.{leader_in}
use Rattle.leader_core.specs.Told.{stage_steps, turn_steps, DoesTurn}
use Rattle.leader_core.proofs.ClientLemmas.{proof_refused, proof_there, row_of}
use Rattle.leader_core.proofs.DoesLemmas.{said_does, said_takes_none}
use Rattle.leader_core.proofs.stores.LeaderStores.prove.Goals as goal

pub returns-then-frame-self-clause-does : goal.returns-then-frame-self-clause-does
returns-then-frame-self-clause-does g c =
    let a = leader_in c.args.self.now in
    let f = plain c.args.frame.now in
    said_does c.args.self.now f c.refused.result _ c.tell.result c.args.out.now c.tell.new.out c.requires.is
    (proof_refused a f c.args.share.now c.if-frame-self.true ∙ ap (said_in a f) (sym c.refused.ensures)) (c.tell.ensures a)

pub returns-then-frame-self-clause-steps : goal.returns-then-frame-self-clause-steps
returns-then-frame-self-clause-steps g c =
    let a = leader_in c.args.self.now in
    let f = plain c.args.frame.now in
    said_takes_none a f c.refused.result _ c.args.steps.now (proof_refused a f c.args.share.now c.if-frame-self.true ∙ ap (said_in a f) (sym c.refused.ensures))

pub tell-requires-in-Err-clause-said : goal.tell-requires-in-Err-clause-said
tell-requires-in-Err-clause-said g c =
    let s = c.args.self.now in
    c.in-Err.ensures.said s.settings.width s.settings.boxes _ (subst (IsLeaderSlot s.settings.width s.settings.boxes (addresses_of s.boxes.boxes)) (sym c.index.ensures) (c.requires.is.server.rows c.from.result c.index.result.now (omega arith)))

pub returns-in-Err-clause-does : goal.returns-in-Err-clause-does
returns-in-Err-clause-does g c =
    let a = leader_in c.args.self.now in
    let f = plain c.args.frame.now in
    let row = row_of c.args.self.now.slots.items c.from.result f.lane c.index.result.now (omega arith) c.from.ensures ∙ ap row_in (sym c.index.ensures) in
    said_does c.args.self.now f c.in-Err.said _ c.tell-in-Err.result c.args.out.now c.tell-in-Err.new.out c.requires.is
    (proof_there a f c.args.share.now (row_in c.index.result.now) (omega arith) row ∙ c.in-Err.ensures.turn a f c.args.share.now row) (c.tell-in-Err.ensures a)

pub returns-in-Err-clause-steps : goal.returns-in-Err-clause-steps
returns-in-Err-clause-steps g c =
    let a = leader_in c.args.self.now in
    let f = plain c.args.frame.now in
    let row = row_of c.args.self.now.slots.items c.from.result f.lane c.index.result.now (omega arith) c.from.ensures ∙ ap row_in (sym c.index.ensures) in
    said_takes_none a f c.in-Err.said _ c.args.steps.now
    (proof_there a f c.args.share.now (row_in c.index.result.now) (omega arith) row ∙ c.in-Err.ensures.turn a f c.args.share.now row)

pub returns-in-Some-clause-does : goal.returns-in-Some-clause-does
returns-in-Some-clause-does g c =
    let a = leader_in c.args.self.now in
    let f = plain c.args.frame.now in
    let row = row_of c.args.self.now.slots.items c.from.result f.lane c.index.result.now (omega arith) c.from.ensures ∙ ap row_in (sym c.index.ensures) in
    let w = write_in c.in-Ok.begun c.index.result.now.room.part.items in
    said_does c.args.self.now f c.in-Some.said _ c.tell-in-Some.result c.args.out.now c.tell-in-Some.new.out c.requires.is
    (proof_there a f c.args.share.now (row_in c.index.result.now) (omega arith) row
    ∙ (c.in-Ok.ensures.turn a f c.args.share.now row ∙ c.in-Some.ensures.turn f (audits a f w c.args.share.now))) (c.tell-in-Some.ensures a)

pub returns-in-Some-clause-steps : goal.returns-in-Some-clause-steps
returns-in-Some-clause-steps g c =
    let a = leader_in c.args.self.now in
    let f = plain c.args.frame.now in
    let row = row_of c.args.self.now.slots.items c.from.result f.lane c.index.result.now (omega arith) c.from.ensures ∙ ap row_in (sym c.index.ensures) in
    let w = write_in c.in-Ok.begun c.index.result.now.room.part.items in
    said_takes_none a f c.in-Some.said _ c.args.steps.now
    (proof_there a f c.args.share.now (row_in c.index.result.now) (omega arith) row
    ∙ (c.in-Ok.ensures.turn a f c.args.share.now row ∙ c.in-Some.ensures.turn f (audits a f w c.args.share.now)))

pub returns-clause-does : goal.returns-clause-does
returns-clause-does g c =
    let s = c.args.self.now in
    let a = leader_in s in
    let f = plain c.args.frame.now in
    let cur = c.index.result.now in
    let inside : c.from.result < length s.slots.items = omega arith in
    let row = row_of s.slots.items c.from.result f.lane cur inside c.from.ensures ∙ ap row_in (sym c.index.ensures) in
    let here : cur ≡ get_or s.slots.items f.lane cur = c.index.ensures ∙ ap (λ k. get_or s.slots.items k cur) c.from.ensures in
    let t = proof_there a f c.args.share.now (row_in cur) (omega arith) row
    ∙ (c.in-Ok.ensures.turn a f c.args.share.now row
    ∙ (c.in_default.ensures.turn f (audits a f (write_in c.in-Ok.begun cur.room.part.items) c.args.share.now)
    ∙ ap (λ (x : LeaderSlot). audits a f (write_in c.in-Ok.begun x.room.part.items) c.args.share.now) here)) in
    subst (λ (x : steps.Turn). DoesTurn x c.audit.new.self c.audit.result c.args.out.now c.audit.new.out) (sym t) (c.audit.ensures.does cur)

pub returns-clause-steps : goal.returns-clause-steps
returns-clause-steps g c =
    let s = c.args.self.now in
    let a = leader_in s in
    let f = plain c.args.frame.now in
    let cur = c.index.result.now in
    let w = write_in c.in-Ok.begun cur.room.part.items in
    let inside : c.from.result < length s.slots.items = omega arith in
    let row = row_of s.slots.items c.from.result f.lane cur inside c.from.ensures ∙ ap row_in (sym c.index.ensures) in
    let t = proof_there a f c.args.share.now (row_in cur) (omega arith) row
    ∙ (c.in-Ok.ensures.turn a f c.args.share.now row ∙ c.in_default.ensures.turn f (audits a f w c.args.share.now)) in
    let count : turn_steps a (audits a f w c.args.share.now).answer ≡ prefix_count _ =
    ap (λ (r : steps.Row). stage_steps a r.stage) row ∙ ap (λ (x : LeaderStage). stage_steps a (stage_with x cur.room.part.items cur.own.items cur.other.items)) c.in-Ok.ensures.stage in
    c.audit.ensures.steps ∙ ap (λ n. c.args.steps.now + n) (sym count ∙ ap (λ (x : steps.Turn). turn_steps a x.answer) (sym t))
