use Rattle.desk_outside.specs.Calls.{Held, given}
use Rattle.desk_run.proofs.StepLaws.{on_gentle}
use Rattle.desk_run.proofs.holding.hold.Goals as goal

pub returns-in-Ok-Held-clause-steps : goal.returns-in-Ok-Held-clause-steps
returns-in-Ok-Held-clause-steps g c =
    on_gentle g.F.File.Disk.disk g.F.File.Counted.seen (Held (given c.hold.result)) _ _ tt c.hold.ensures.call

pub returns-in-Ok-Copied-clause-steps : goal.returns-in-Ok-Copied-clause-steps
returns-in-Ok-Copied-clause-steps g c =
    on_gentle g.F.File.Disk.disk g.F.File.Counted.seen (Held (given c.hold.result)) _ _ tt c.hold.ensures.call

pub returns-in-Ok-InUse-clause-steps : goal.returns-in-Ok-InUse-clause-steps
returns-in-Ok-InUse-clause-steps g c =
    on_gentle g.F.File.Disk.disk g.F.File.Counted.seen (Held (given c.hold.result)) _ _ tt c.hold.ensures.call

pub returns-in-Err-clause-steps : goal.returns-in-Err-clause-steps
returns-in-Err-clause-steps g c =
    on_gentle g.F.File.Disk.disk g.F.File.Counted.seen (Held (given c.hold.result)) _ _ tt c.hold.ensures.call
