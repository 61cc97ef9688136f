use Rattle.file_carry.proofs.Joins as join
use Rattle.file_carry.proofs.Journals as journal
use Rattle.file_carry.proofs.carried.answers_join.Goals as goal

pub returns-clause-given : goal.returns-clause-given
returns-clause-given c = journal.parts_are_given

pub returns-clause-join : goal.returns-clause-join
returns-clause-join c = join.answers_join
