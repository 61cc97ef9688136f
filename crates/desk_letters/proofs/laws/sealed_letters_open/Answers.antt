use Rattle.desk_letters.proofs.LetterLaws.{sealed_open, one_content}
use Rattle.desk_letters.proofs.laws.sealed_letters_open.Goals as goal

pub returns-clause-opens : goal.returns-clause-opens
returns-clause-opens c = sealed_open

pub returns-clause-one : goal.returns-clause-one
returns-clause-one c = one_content
