use Rattle.step_laws.proofs.Draws.{clients_draw, servers_draw}
use Rattle.step_laws.proofs.draws_are_fresh.Goals as goal

pub returns : goal.returns
returns c = record { servers = servers_draw; clients = clients_draw }
