use Rattle.run_rules.proofs.EveryEnd.{heeded_at_every_end, replies_at_every_end}
use Rattle.run_rules.proofs.current_frames_are_heeded.Goals as goal

pub returns-clause-heeded : goal.returns-clause-heeded
returns-clause-heeded c = heeded_at_every_end

pub returns-clause-fit : goal.returns-clause-fit
returns-clause-fit c = replies_at_every_end
