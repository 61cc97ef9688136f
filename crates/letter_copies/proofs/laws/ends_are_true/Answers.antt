use Rattle.letter_copies.proofs.EndLaws.{given_up_is_nowhere, not_written_is_true, written_is_true}
use Rattle.letter_copies.proofs.laws.ends_are_true.Goals as goal

pub returns-clause-written : goal.returns-clause-written
returns-clause-written c = written_is_true

pub returns-clause-not_written : goal.returns-clause-not_written
returns-clause-not_written c = not_written_is_true

pub returns-clause-given_up : goal.returns-clause-given_up
returns-clause-given_up c = given_up_is_nowhere
