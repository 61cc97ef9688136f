use Rattle.std.proofs.Common.{subst}
use Rattle.client_core.specs.Stages.{IsStage}
use Rattle.client_core.proofs.hearing.on_step.Goals as goal

pub returns-in-Deposits-clause-heard : goal.returns-in-Deposits-clause-heard
returns-in-Deposits-clause-heard c = λ h is. c.on_deposit.ensures.heard h (subst (IsStage h) c.in-Deposits.is is)

pub returns-in-Submits-clause-heard : goal.returns-in-Submits-clause-heard
returns-in-Submits-clause-heard c = λ h is. c.on_submission.ensures.heard h (subst (IsStage h) c.in-Submits.is is)

pub returns-in-ProvesToLeader-clause-heard : goal.returns-in-ProvesToLeader-clause-heard
returns-in-ProvesToLeader-clause-heard c = λ h _. c.on_leader_proof.ensures.heard h
