use Rattle.many_servers.proofs.LateLaws.{late-comers-hear}
use Rattle.many_servers.proofs.laws.late_comers_hear.Goals as goal

pub returns : goal.returns
returns c = late-comers-hear
