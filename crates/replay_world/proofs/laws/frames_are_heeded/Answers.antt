use Rattle.run_rules.proofs.EveryEnd.{heeded_at_every_end, replies_at_every_end}
use Rattle.run_rules.specs.EveryEnd.{RepliesFit}
use Rattle.run_rules.specs.Heeded.{CurrentIsHeeded}
use Rattle.replay_world.proofs.Strangers.{of_every_schedule}
use Rattle.replay_world.proofs.laws.frames_are_heeded.Goals as goal

pub returns-clause-heeded : goal.returns-clause-heeded
returns-clause-heeded c = of_every_schedule CurrentIsHeeded heeded_at_every_end

pub returns-clause-fit : goal.returns-clause-fit
returns-clause-fit c = of_every_schedule RepliesFit replies_at_every_end
