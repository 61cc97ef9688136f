use Rattle.std.proofs.Common.{ap, ◌∙◌}
use Rattle.node_restart.specs.Steps.{role_of, settings_of}
use Rattle.node_restart.proofs.StepLaws.{opened_role, opened_settings}
use Rattle.node_restart.proofs.machine.ServerMachine.open.Goals as goal

pub returns-in-Ok-clause-sound : goal.returns-in-Ok-clause-sound
returns-in-Ok-clause-sound c = record {
  is_opening = c.in-Some.ensures.some;
  settings = ap settings_of c.in-Ok.ensures ∙ opened_settings c.in-Some.opening;
  role = ap role_of c.in-Ok.ensures ∙ opened_role c.in-Some.opening;
}
