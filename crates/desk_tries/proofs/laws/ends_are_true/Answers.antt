use Rattle.desk_tries.proofs.RunLaws.{given_up_is_nowhere, not_written_is_true, tries_are_few, written_is_true}
use Rattle.desk_tries.proofs.laws.ends_are_true.Goals as goal

pub returns-clause-not_written : goal.returns-clause-not_written
returns-clause-not_written c = not_written_is_true

pub returns-clause-written : goal.returns-clause-written
returns-clause-written c = written_is_true

pub returns-clause-few : goal.returns-clause-few
returns-clause-few c = tries_are_few

pub returns-clause-given_up : goal.returns-clause-given_up
returns-clause-given_up c = given_up_is_nowhere
