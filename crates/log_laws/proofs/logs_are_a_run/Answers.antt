use Rattle.log_laws.proofs.Delivering.{logs_are_a_run}
use Rattle.log_laws.proofs.logs_are_a_run.Goals as goal

pub returns : goal.returns
returns c = logs_are_a_run
