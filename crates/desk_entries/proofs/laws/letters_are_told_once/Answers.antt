use Rattle.desk_entries.proofs.LetterLaws.{grows, once}
use Rattle.desk_entries.proofs.laws.letters_are_told_once.Goals as goal

pub returns-clause-grows : goal.returns-clause-grows
returns-clause-grows c = grows

pub returns-clause-once : goal.returns-clause-once
returns-clause-once c = once
