use Rattle.client_core.proofs.frames.proof_body.Goals as goal

pub returns-clause-right : goal.returns-clause-right
returns-clause-right c = c.read_share.ensures.in_range
