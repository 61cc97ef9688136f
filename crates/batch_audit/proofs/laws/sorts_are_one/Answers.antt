use Rattle.batch_audit.proofs.Sorts.{sorts_are_one as one_outcome}
use Rattle.batch_audit.proofs.laws.sorts_are_one.Goals as goal

pub returns : goal.returns
returns c = one_outcome
