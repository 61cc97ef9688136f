use Rattle.desk_outbox.proofs.ReopenLaws.{tell_none}
use Rattle.desk_outbox.proofs.reopening.remembered.Goals as goal

pub returns-in-Err-clause-foreign : goal.returns-in-Err-clause-foreign
returns-in-Err-clause-foreign c = λ other. tell_none _ _ _ c.in-Some.ensures.some (c.in-Err.ensures.none other)
