use Rattle.std.proofs.Common.{◌≡◌, ◌<◌, ◌+◌, length, get_or, sym, ap, subst, ◌∙◌, arith}
use Rattle.frame_rules.specs.Frames as frame
use Rattle.frame_rules.proofs.AnswerLaws.{client_serial}
use Rattle.frame_rules.specs.Frames.{plain, plain_body}
use Rattle.audit_rules.specs.Values.{sigma_of}
use Rattle.server_boxes.specs.Held.{write_in}
use Rattle.step_rules.specs.Boxes.{addresses_of}
use Rattle.step_rules.specs.Leader as steps
use Rattle.step_rules.specs.LeaderClients.{audits}
use Rattle.leader_core.specs.declared.slot.LeaderSlot.{LeaderSlot}
use Rattle.leader_core.specs.Slots.{IsLeaderSlot}
use Rattle.leader_core.specs.State.{leader_in}
use Rattle.leader_core.proofs.DoesLemmas.{issue_does, audits_is}
use Rattle.leader_core.proofs.SlotLemmas.{get_any, with_serial}
use Rattle.leader_core.proofs.stores.LeaderStores.audit.Goals as goal

pub returns-clause-does : goal.returns-clause-does
returns-clause-does g c d =
    let s = c.args.self.now in
    let f = plain c.args.frame.now in
    let cur = c.index_mut-slot.result.now in
    let begun = c.args.begun.now in
    let share = c.args.share.now in
    let inside : c.from.result < length s.slots.items = omega (arith, c.requires.is.server.lanes, c.from.ensures, c.requires.lane) in
    let here : get_or s.slots.items f.lane d ≡ cur = ap (λ k. get_or s.slots.items k d) (sym c.from.ensures) ∙ (get_any s.slots.items c.from.result d cur inside ∙ sym c.index_mut-slot.ensures.value) in
    let w = write_in begun cur.room.part.items in
    let point = c.sigma_of-sigma.result in
    let opened = c.audit-opened.result in
    let t : audits (leader_in s) f (write_in begun (get_or s.slots.items f.lane d).room.part.items) share ≡ _ =
    ap (λ (x : LeaderSlot). audits (leader_in s) f (write_in begun x.room.part.items) share) here
    ∙ audits_is (leader_in s) f w share point c.next-number.result opened (c.sigma_of-sigma.ensures ∙ ap sigma_of c.draw32.ensures) c.audit-opened.ensures.opened c.next-number.ensures.number in
    let slot = c.audit-opened.ensures.is_slot s.settings.width s.settings.boxes
    (with_serial s.settings.width s.settings.boxes (addresses_of s.boxes.boxes) cur f.serial
    (subst (IsLeaderSlot s.settings.width s.settings.boxes (addresses_of s.boxes.boxes)) (sym c.index_mut-slot.ensures.value) (c.requires.is.server.rows c.from.result cur inside))) in
    issue_does s c.audit-opened.new.boxes f (frame.LinkAudit point opened) (steps.Auditing c.next-number.result w share point opened) c.from.result c.audit-opened.new.self c.issue-length.new.self (s.draws + 1) c.next-number.result c.issue-length.result
    c.args.out.now c.issue-length.new.out _ c.audit-opened.ensures.same t
    c.requires.is c.from.ensures c.requires.lane (client_serial (plain_body c.args.frame.now.body) c.args.frame.now.lane c.args.frame.now.serial c.requires.class c.requires.is_frame.addressed) c.audit-opened.ensures.row slot
    c.requires.next c.requires.free c.issue-length.ensures.link c.issue-length.ensures.order c.issue-length.ensures.is_frame (omega arith)
    c.next-number.ensures.number c.issue-length.ensures.length c.issue-length.ensures.front
