use Rattle.std.proofs.Common.{inl}
use Rattle.desk_run.proofs.opening.make.Goals as goal

pub put_ledger-placed-requires : goal.put_ledger-placed-requires
put_ledger-placed-requires g c = record {
  next = inl (c.args.text.now, c.in-Ok.ensures.entries);
}
