use Rattle.std.proofs.Common.{refl}
use Rattle.desk_run.proofs.resuming.desk_settled.Goals as goal

pub returns-in-Ok-clause-settled : goal.returns-in-Ok-clause-settled
returns-in-Ok-clause-settled g c = record {
  start = c.in_ok-ledger.ledger;
  opens = c.in_ok-ledger.ensures.opens;
  settles = c.in-Ok.ensures.settles;
  silent = refl;
}
