use Rattle.std.proofs.Common.{◌≡◌, ◌<◌, ◌^◌, ◌∙◌, ℕ, ap, sym, subst}
use Rattle.kept_letter.specs.Letters.{LetterState}
use Rattle.kept_letter.proofs.HearLaws.{asked_for, opened_serial}
use Rattle.kept_letter.proofs.letter.LetterOnItsWay.ask.Goals as goal

pub returns-in-Ok-clause-is : goal.returns-in-Ok-clause-is
returns-in-Ok-clause-is c =
    let client = c.in_ok-client.client in
    let serial : client.serial ≡ c.args.at.now.serial =
    opened_serial _ _ _ _ client c.in_ok-client.ensures.opened in
    let width : client.width ≡ c.args.self.now.plan.card.width =
    c.in_ok-client.ensures.width ∙ ap (λ (s : LetterState). s.plan.card.width) c.self.view_is in
    asked_for c.args.self.now.plan client c.ask.new.self _ c.in-Ok.ensures.asked width
    (subst (λ (n : ℕ). n < 2 ^ 32) (sym serial) c.requires.fits)
