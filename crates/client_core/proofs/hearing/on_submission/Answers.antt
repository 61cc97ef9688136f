use Rattle.std.proofs.Common.{subst}
use Rattle.client_core.specs.Stages.{IsTask}
use Rattle.client_core.proofs.hearing.on_submission.Goals as goal

pub returns-in-Register-clause-heard : goal.returns-in-Register-clause-heard
returns-in-Register-clause-heard c = λ h is. c.on_registered.ensures.heard h (subst (IsTask h) c.in-Register.is is)
