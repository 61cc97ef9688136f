use Rattle.owner_ledger.proofs.finding.ledger_in.Goals as goal

pub returns-in-Ok-clause-steps : goal.returns-in-Ok-clause-steps
returns-in-Ok-clause-steps g c = λ start s. c.open_file.ensures.steps start (c.is_there.ensures.steps start s)
