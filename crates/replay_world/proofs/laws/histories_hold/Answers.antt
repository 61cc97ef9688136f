use Rattle.run_rules.proofs.EveryEnd.{history_at_every_end}
use Rattle.run_rules.proofs.HistoryRuns.{runs_at_every_end}
use Rattle.run_rules.specs.EveryEnd.{HistoryIsSo}
use Rattle.run_rules.specs.HistoryRuns.{HistoryIsRuns}
use Rattle.replay_world.proofs.Strangers.{history_is_of_run, of_every_schedule}
use Rattle.replay_world.proofs.laws.histories_hold.Goals as goal

pub returns-clause-runs : goal.returns-clause-runs
returns-clause-runs c = of_every_schedule HistoryIsRuns runs_at_every_end

pub returns-clause-entries : goal.returns-clause-entries
returns-clause-entries c = of_every_schedule HistoryIsSo history_at_every_end

pub returns-clause-printed : goal.returns-clause-printed
returns-clause-printed c = history_is_of_run
