use Rattle.desk_run.proofs.StepLaws.{on_ledger}
use Rattle.desk_run.proofs.ledgers.put_ledger.Goals as goal

pub returns-in-Ok-clause-steps : goal.returns-in-Ok-clause-steps
returns-in-Ok-clause-steps g c =
    on_ledger g.F.File.Disk.disk g.F.File.Counted.seen c.args.next.now _ _ _ c.requires.next c.put_in_place.ensures.call

pub returns-in-Err-clause-steps : goal.returns-in-Err-clause-steps
returns-in-Err-clause-steps g c =
    on_ledger g.F.File.Disk.disk g.F.File.Counted.seen c.args.next.now _ _ _ c.requires.next c.put_in_place.ensures.call
