use Rattle.step_rules.proofs.HelperRefusals.{clients, commands}
use Rattle.step_rules.proofs.refusals.helper_refusals.Goals as goal

pub returns-clause-clients : goal.returns-clause-clients
returns-clause-clients c = clients

pub returns-clause-commands : goal.returns-clause-commands
returns-clause-commands c = commands
