use Rattle.step_rules.proofs.LeaderRefusals.{clients, requests}
use Rattle.step_rules.proofs.refusals.leader_refusals.Goals as goal

pub returns-clause-clients : goal.returns-clause-clients
returns-clause-clients c = clients

pub returns-clause-requests : goal.returns-clause-requests
returns-clause-requests c = requests
