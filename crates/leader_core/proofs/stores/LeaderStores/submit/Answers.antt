use Rattle.std.proofs.Common.{◌<◌, ◌+◌, length, sym, ap, subst, ◌∙◌, refl, arith}
use Rattle.frame_rules.proofs.AnswerLaws.{client_serial}
use Rattle.frame_rules.specs.Frames.{plain, plain_body, PlainBody}
use Rattle.step_rules.specs.Boxes.{addresses_of}
use Rattle.step_rules.specs.Leader as steps
use Rattle.step_rules.specs.LeaderClients.{issues}
use Rattle.leader_core.specs.Asked.{asked_with}
use Rattle.leader_core.specs.Slots.{IsLeaderSlot}
use Rattle.leader_core.specs.State.{leader_in}
use Rattle.leader_core.proofs.IssueLemmas.{issued_is}
use Rattle.leader_core.proofs.DoesLemmas.{submits_none}
use Rattle.leader_core.proofs.DoesLemmas.{issue_does}
use Rattle.leader_core.proofs.stores.LeaderStores.submit.Goals as goal

pub returns-clause-does : goal.returns-clause-does
returns-clause-does c =
    let s = c.args.self.now in
    let f = plain c.args.frame.now in
    let inside : c.from.result < length s.slots.items = omega (arith, c.requires.is.server.lanes, c.from.ensures, c.requires.lane) in
    let asked = asked_with c.args.asked c.args.part.now in
    let stage = steps.Waiting s.link.next asked in
    let draws = s.draws + c.draws.result in
    let t = issued_is (leader_in s) f c.args.asked c.args.part.now draws (ap (λ n. s.draws + n) c.draws.ensures.number)
    ∙ ap (λ (b : PlainBody). issues (record (leader_in s) { draws = draws }) f b stage) (sym c.command-body.ensures.body) in
    let slot = c.wait.ensures.is_slot (addresses_of s.boxes.boxes) s.settings.width s.settings.boxes
    (subst (IsLeaderSlot s.settings.width s.settings.boxes (addresses_of s.boxes.boxes)) (sym c.index_mut.ensures.value) (c.requires.is.server.rows c.from.result c.index_mut.result.now inside)) in
    issue_does s s.boxes f (plain_body c.command-body.result) stage c.from.result c.wait.new.self c.issue-length.new.self draws c.next-number.result c.issue-length.result c.args.out.now c.issue-length.new.out _ refl t
    c.requires.is c.from.ensures c.requires.lane (client_serial (plain_body c.args.frame.now.body) c.args.frame.now.lane c.args.frame.now.serial c.requires.class c.requires.is_frame.addressed) (c.wait.ensures.row ∙ ap (λ n. steps.row f.serial (steps.Waiting n asked)) c.next-number.ensures.number) slot
    c.requires.next c.requires.free c.issue-length.ensures.link c.issue-length.ensures.order c.issue-length.ensures.is_frame (omega (arith, c.draws.ensures.most))
    c.next-number.ensures.number c.issue-length.ensures.length c.issue-length.ensures.front

pub returns-clause-none : goal.returns-clause-none
returns-clause-none c = submits_none (leader_in c.args.self.now) (plain c.args.frame.now) (asked_with c.args.asked c.args.part.now)
