use Rattle.run_laws.proofs.Draws.{draws_at_every_end}
use Rattle.run_laws.proofs.draws_are_apart.Goals as goal

pub returns : goal.returns
returns c = draws_at_every_end
