use Rattle.std.specs.Prelude.{is_err}
use Rattle.desk_steps.proofs.StepLaws.{on_ledger}
use Rattle.owner_ledger.proofs.making.put.Goals as goal

pub returns-in-Ok-clause-steps : goal.returns-in-Ok-clause-steps
returns-in-Ok-clause-steps g c =
    on_ledger g.F.File.Disk.disk g.F.File.Counted.seen c.args.next.now.machine.ledger.state
    (is_err c.put_in_place.result) _ _ c.requires.next c.put_in_place.ensures.call

pub returns-in-Err-clause-steps : goal.returns-in-Err-clause-steps
returns-in-Err-clause-steps g c =
    on_ledger g.F.File.Disk.disk g.F.File.Counted.seen c.args.next.now.machine.ledger.state
    (is_err c.put_in_place.result) _ _ c.requires.next c.put_in_place.ensures.call
