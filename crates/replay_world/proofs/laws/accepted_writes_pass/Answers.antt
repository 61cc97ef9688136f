use Rattle.run_rules.proofs.EveryEnd.{bad_writes_at_every_end, settled_at_every_end}
use Rattle.run_rules.specs.Soundness.{BadWritesAreCaught, SettledAsTheyPass}
use Rattle.replay_world.proofs.Strangers.{of_every_schedule}
use Rattle.replay_world.proofs.laws.accepted_writes_pass.Goals as goal

pub returns-clause-passes : goal.returns-clause-passes
returns-clause-passes c = of_every_schedule SettledAsTheyPass settled_at_every_end

pub returns-clause-caught : goal.returns-clause-caught
returns-clause-caught c = of_every_schedule BadWritesAreCaught bad_writes_at_every_end
