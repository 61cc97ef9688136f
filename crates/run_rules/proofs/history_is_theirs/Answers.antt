use Rattle.run_rules.proofs.HistoryRuns.{runs_are_one, runs_at_end, runs_at_every_end}
use Rattle.run_rules.proofs.history_is_theirs.Goals as goal

pub returns-clause-clients : goal.returns-clause-clients
returns-clause-clients c = runs_at_end

pub returns-clause-strangers : goal.returns-clause-strangers
returns-clause-strangers c = runs_at_every_end

pub returns-clause-runs : goal.returns-clause-runs
returns-clause-runs c = runs_are_one
