use Rattle.std.specs.Prelude.{is_err}
use Rattle.desk_outside.specs.Calls.{Looked, Removed, given}
use Rattle.desk_outside.specs.declared.folder.DeskFile.TheVariants.{NextOutbox}
use Rattle.desk_steps.proofs.StepLaws.{on_gentle}
use Rattle.desk_send.proofs.clearing.clear_one.Goals as goal

pub returns-in-Ok-clause-steps : goal.returns-in-Ok-clause-steps
returns-in-Ok-clause-steps g c =
    λ start s. on_gentle g.F.File.Disk.disk g.F.File.Counted.seen
    (Removed (NextOutbox c.args.slot) (is_err c.remove.result))
    (g.F.Folder.calls c.is_there.new.self) _ tt c.remove.ensures.call start
    (on_gentle g.F.File.Disk.disk g.F.File.Counted.seen
    (Looked (NextOutbox c.args.slot) (given c.is_there.result)) _
    (g.F.Folder.calls c.is_there.new.self) tt c.is_there.ensures.call start s)

pub returns-in-Err-remove-clause-steps : goal.returns-in-Err-remove-clause-steps
returns-in-Err-remove-clause-steps g c =
    λ start s. on_gentle g.F.File.Disk.disk g.F.File.Counted.seen
    (Removed (NextOutbox c.args.slot) (is_err c.remove.result))
    (g.F.Folder.calls c.is_there.new.self) _ tt c.remove.ensures.call start
    (on_gentle g.F.File.Disk.disk g.F.File.Counted.seen
    (Looked (NextOutbox c.args.slot) (given c.is_there.result)) _
    (g.F.Folder.calls c.is_there.new.self) tt c.is_there.ensures.call start s)

pub returns-in-Ok-false-clause-steps : goal.returns-in-Ok-false-clause-steps
returns-in-Ok-false-clause-steps g c =
    on_gentle g.F.File.Disk.disk g.F.File.Counted.seen
    (Looked (NextOutbox c.args.slot) (given c.is_there.result)) _ _ tt
    c.is_there.ensures.call

pub returns-in-Err-clause-steps : goal.returns-in-Err-clause-steps
returns-in-Err-clause-steps g c =
    on_gentle g.F.File.Disk.disk g.F.File.Counted.seen
    (Looked (NextOutbox c.args.slot) (given c.is_there.result)) _ _ tt
    c.is_there.ensures.call
