use Rattle.std.proofs.Common.{◌<◌, ℕ, ap, ◌∙◌, subst}
use Rattle.desk_tries.specs.Steps.{SendingState}
use Rattle.desk_outbox.proofs.AnswerLaws.{addresses_stay}
use Rattle.desk_outbox.proofs.outbox.Outbox.end.Goals as goal

pub note-requires-clause-address : goal.note-requires-clause-address
note-requires-clause-address g c =
    let all = ap (λ (s : SendingState). s.addresses) c.requires.state ∙ addresses_stay _ c.args.answer in
    subst (λ (n : ℕ). c.address.result < n) all c.address.ensures.there
