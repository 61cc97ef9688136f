use Rattle.std.proofs.Common.{refl}
use Rattle.owner_ledger.proofs.opening.open.Goals as goal

pub returns-clause-opens : goal.returns-clause-opens
returns-clause-opens g c = record {
  done = refl;
  pair = c.in_ok-pair.pair;
  of_file = c.in_ok-pair.ensures.of_file;
  first = c.in_ok-first.first;
  checks = c.in_ok-first.ensures.checks;
  desk = c.in_ok-make_or_keep.ensures.desk;
  said = c.in_ok-say.ensures.said;
}
