use Rattle.owner_mail.proofs.MarkLaws.{told_once}
use Rattle.owner_mail.proofs.laws.letters_are_told_once.Goals as goal

pub returns : goal.returns
returns c = told_once
