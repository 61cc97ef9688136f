use Rattle.node_serve.proofs.StepLaws.{tells}
use Rattle.node_serve.proofs.handing.step.Goals as goal

pub returns-in-Ok-clause-steps : goal.returns-in-Ok-clause-steps
returns-in-Ok-clause-steps g c = tells _ _ _ _ c.in-Ok.did _ _ _ c.told.ensures c.is_ignored.ensures c.in-Ok.ensures.step
