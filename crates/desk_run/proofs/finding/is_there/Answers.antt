use Rattle.desk_outside.specs.Calls.{Looked, given}
use Rattle.desk_outside.specs.declared.folder.DeskFile.TheVariants.{Outbox}
use Rattle.desk_run.proofs.StepLaws.{on_gentle}
use Rattle.desk_run.proofs.finding.is_there.Goals as goal

pub returns-in-Ok-clause-steps : goal.returns-in-Ok-clause-steps
returns-in-Ok-clause-steps g c =
    on_gentle g.F.File.Disk.disk g.F.File.Counted.seen (Looked (Outbox c.args.slot) (given c.is_there.result)) _ _ tt c.is_there.ensures.call

pub returns-in-Err-clause-steps : goal.returns-in-Err-clause-steps
returns-in-Err-clause-steps g c =
    on_gentle g.F.File.Disk.disk g.F.File.Counted.seen (Looked (Outbox c.args.slot) (given c.is_there.result)) _ _ tt c.is_there.ensures.call
