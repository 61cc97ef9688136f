use Rattle.std.proofs.Common.{inl, inr}
use Rattle.desk_run.proofs.forgetting.replace.Goals as goal

pub put_ledger-requires : goal.put_ledger-requires
put_ledger-requires g c = record {
  next = inr (inl (c.args.old.now, c.requires.follows));
}
