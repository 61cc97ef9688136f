use Rattle.std.proofs.Common.{inl}
use Rattle.kept_ledger.specs.Ledgers.{opened_ledger}
use Rattle.kept_ledger.specs.Notes.{plain_opening}
use Rattle.owner_ledger.proofs.MakeLaws.{puts}
use Rattle.owner_ledger.proofs.making.make.Goals as goal

pub put-placed-requires : goal.put-placed-requires
put-placed-requires g c = record {
  next = inl (plain_opening c.args.opening.now, c.in_ok-next.ensures.opened);
  still_open = c.in_ok-next.ensures.still_open;
}

pub returns-clause-makes : goal.returns-clause-makes
returns-clause-makes g c =
    puts g.F.File.Disk.disk g.F.File.Counted.seen (opened_ledger (plain_opening c.args.opening.now))
    c.in_ok-disk.disk c.in_ok-next.next _ _ _ c.put-placed.result c.in_ok-disk.ensures.made
    c.in_ok-next.ensures.opened c.put-placed.ensures.durable c.put-placed.ensures.placed

pub returns-clause-steps : goal.returns-clause-steps
returns-clause-steps g c = λ start s. c.put-placed.ensures.steps start (c.empty_file.ensures.steps start s)
