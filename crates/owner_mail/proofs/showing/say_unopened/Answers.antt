use Rattle.std.proofs.Common.{◌≡◌, ℕ, List}
use Rattle.desk_lines.specs.Letters.{met_line}
use Rattle.owner_mail.proofs.TellLaws.{first_nothing, on_err}
use Rattle.owner_mail.proofs.showing.say_unopened.Goals as goal

pub returns-in_err-text-clause-first : goal.returns-in_err-text-clause-first
returns-in_err-text-clause-first g c =
    on_err c.from_residual.result
    (first_nothing (λ (text : List ℕ). text ≡ met_line c.args.mail.now.name c.args.mail.now.unopened) _)
