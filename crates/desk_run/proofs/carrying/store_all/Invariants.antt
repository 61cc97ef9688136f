use Rattle.desk_run.specs.Works.{StoresOn}
use Rattle.desk_run.proofs.carrying.store_all.Given as goal

abbrev pub invariant-outcomes : goal.invariant-outcomes
invariant-outcomes g l = StoresOn l.fn.seconds l.fn.ledger l.refused l.ledger
