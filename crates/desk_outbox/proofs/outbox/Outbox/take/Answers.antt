use Rattle.std.proofs.Common.{ap, sym, ◌∙◌}
use Rattle.client_core.specs.Answers.{progress_in}
use Rattle.step_rules.specs.ClientReplies.{on_reply}
use Rattle.desk_outbox.specs.Outboxes.{OutboxState}
use Rattle.desk_tries.specs.declared.heard.Answer.{Answer}
use Rattle.desk_tries.specs.Steps.{turn_of}
use Rattle.desk_outbox.proofs.AnswerLaws.{goes_on_only}
use Rattle.desk_outbox.proofs.outbox.Outbox.take.Goals as goal

pub go_on-requires : goal.go_on-requires
go_on-requires g c =
    let s = c.sending-sending.result in
    let on = ap (λ (a : Answer). (turn_of s a).next) (sym c.answer_to-answer.ensures) ∙ sym c.in-GoOn.ensures.next in
    let same = ap (λ (o : OutboxState g.row.D.Denot). progress_in (on_reply o.kept.core.client c.args.frame.now).progress) (sym c.self.view_is) in
    record { fits = same ∙ sym c.progress_at-progress.ensures ∙ goes_on_only s c.progress_at-progress.result on }
