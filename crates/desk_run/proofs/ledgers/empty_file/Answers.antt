use Rattle.std.specs.Prelude.{is_err}
use Rattle.desk_outside.specs.Calls.{Opened, Removed, given}
use Rattle.desk_run.proofs.StepLaws.{on_gentle}
use Rattle.desk_run.proofs.ledgers.empty_file.Goals as goal

pub returns-then-is_err-clause-steps : goal.returns-then-is_err-clause-steps
returns-then-is_err-clause-steps g c =
    on_gentle g.F.File.Disk.disk g.F.File.Counted.seen (Removed c.args.next (is_err c.remove.result)) _ _ c.requires.next c.remove.ensures.call

pub returns-in-Ok-clause-steps : goal.returns-in-Ok-clause-steps
returns-in-Ok-clause-steps g c =
    λ start s. on_gentle g.F.File.Disk.disk g.F.File.Counted.seen (Opened c.args.next (given c.open.result)) (g.F.Folder.calls c.remove.new.self) _ tt c.open.ensures.call start
    (on_gentle g.F.File.Disk.disk g.F.File.Counted.seen (Removed c.args.next (is_err c.remove.result)) _ (g.F.Folder.calls c.remove.new.self) c.requires.next c.remove.ensures.call start s)

pub returns-in-Err-clause-steps : goal.returns-in-Err-clause-steps
returns-in-Err-clause-steps g c =
    λ start s. on_gentle g.F.File.Disk.disk g.F.File.Counted.seen (Opened c.args.next (given c.open.result)) (g.F.Folder.calls c.remove.new.self) _ tt c.open.ensures.call start
    (on_gentle g.F.File.Disk.disk g.F.File.Counted.seen (Removed c.args.next (is_err c.remove.result)) _ (g.F.Folder.calls c.remove.new.self) c.requires.next c.remove.ensures.call start s)
