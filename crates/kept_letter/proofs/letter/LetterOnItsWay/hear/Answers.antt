use Rattle.std.proofs.Common.{◌∙◌, ap, sym}
use Rattle.std.specs.Prelude.{option_map}
use Rattle.step_rules.specs.Client.{Client}
use Rattle.step_rules.specs.ClientReplies.{on_reply}
use Rattle.kept_letter.specs.Letters.{LetterState, answer_in}
use Rattle.kept_letter.proofs.HearLaws.{goes_busy}
use Rattle.kept_letter.proofs.letter.LetterOnItsWay.hear.Goals as goal

pub go_on-requires : goal.go_on-requires
go_on-requires c =
    goes_busy c.self.inside.copies c.args.frame.now c.in-Some.answer c.self.inside.client
    (c.in-Some.ensures
    ∙ ap (λ (s : LetterState). option_map (λ (d : Client). answer_in (on_reply d c.args.frame.now).progress)
    s.client) (sym c.self.view_is))
    c.in-GoOn.ensures.next
