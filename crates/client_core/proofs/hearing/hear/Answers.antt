use Rattle.client_core.proofs.hearing.hear.Goals as goal

pub returns-then-mine-clause-heard : goal.returns-then-mine-clause-heard
returns-then-mine-clause-heard c = λ h _. c.on_refusal.ensures.heard h
