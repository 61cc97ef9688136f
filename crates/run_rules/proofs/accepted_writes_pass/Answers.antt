use Rattle.run_rules.proofs.EveryEnd.{bad_writes_at_every_end, settled_at_every_end}
use Rattle.run_rules.proofs.accepted_writes_pass.Goals as goal

pub returns-clause-passes : goal.returns-clause-passes
returns-clause-passes c = settled_at_every_end

pub returns-clause-caught : goal.returns-clause-caught
returns-clause-caught c = bad_writes_at_every_end
