use Rattle.std.proofs.Common.{inr, rules}
use Rattle.desk_run.proofs.adopting.follow.Goals as goal

pub put_ledger-requires : goal.put_ledger-requires
put_ledger-requires g c = record {
  next = inr (inr (
    c.args.ledger.now,
    c.args.number,
    record {
      above = search rules;
      boxes = c.in-Ok.ensures.boxes;
      entries = c.in-Ok.ensures.entries;
      pair = c.in-Ok.ensures.pair;
    },
  ));
}
