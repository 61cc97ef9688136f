use Rattle.std.proofs.Common.{◌≡◌, inr, length, rules}
use Rattle.owner_ledger.proofs.PairLaws.{an_opening}
use Rattle.owner_ledger.proofs.opening.make_or_keep.Goals as goal

pub make-requires : goal.make-requires
make-requires g c = record {
  opening = an_opening c.args.pair.now c.seed-seed.result c.args.first _ c.requires.pair (search rules)
      c.requires.some c.ranges.first.fits c.on.ensures;
}

pub returns-then-is_same-clause-desk : goal.returns-then-is_same-clause-desk
returns-then-is_same-clause-desk g c = inr (record {
  kept = c.in-Some.kept;
  opens = rw c.in-Some.is at c.in_ok-kept.ensures.found;
  same = cc (
    c.machine.ensures.value,
    c.ledger.ensures,
    c.pair.ensures,
    c.is_same_pair-is_same.ensures.same c.if-is_same.true,
  );
})
