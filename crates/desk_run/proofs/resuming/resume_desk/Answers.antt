use Rattle.std.proofs.Common.{refl}
use Rattle.desk_run.proofs.resuming.resume_desk.Goals as goal

pub returns-in-Ok-clause-resumed : goal.returns-in-Ok-clause-resumed
returns-in-Ok-clause-resumed g c = record {
  start = c.in-Some.ledger;
  opens = rw c.in-Some.is at c.in_ok-ledger.ensures.told;
  goes = c.in-Ok.ensures.goes;
  nothing_left = c.in-Ok.ensures.nothing_left;
  silent = refl;
}
