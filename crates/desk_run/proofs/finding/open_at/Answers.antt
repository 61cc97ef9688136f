use Rattle.desk_outside.specs.Calls.{Opened, given}
use Rattle.desk_outside.specs.declared.folder.DeskFile.TheVariants.{Outbox}
use Rattle.desk_run.proofs.StepLaws.{on_gentle}
use Rattle.desk_run.proofs.finding.open_at.Goals as goal

pub returns-in-Ok-clause-steps : goal.returns-in-Ok-clause-steps
returns-in-Ok-clause-steps g c =
    λ start s. on_gentle g.F.File.Disk.disk g.F.File.Counted.seen (Opened (Outbox c.args.slot) (given c.open.result)) (g.F.Folder.calls c.is_there.new.folder) _ tt c.open.ensures.call start (c.is_there.ensures.steps start s)

pub returns-in-Err-clause-steps : goal.returns-in-Err-clause-steps
returns-in-Err-clause-steps g c =
    λ start s. on_gentle g.F.File.Disk.disk g.F.File.Counted.seen (Opened (Outbox c.args.slot) (given c.open.result)) (g.F.Folder.calls c.is_there.new.folder) _ tt c.open.ensures.call start (c.is_there.ensures.steps start s)
