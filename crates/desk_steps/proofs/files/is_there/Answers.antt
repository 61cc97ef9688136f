use Rattle.desk_outside.specs.Calls.{Looked, given}
use Rattle.desk_steps.proofs.StepLaws.{on_gentle}
use Rattle.desk_steps.proofs.files.is_there.Goals as goal

pub returns-in-Ok-clause-steps : goal.returns-in-Ok-clause-steps
returns-in-Ok-clause-steps g c =
    on_gentle g.F.File.Disk.disk g.F.File.Counted.seen (Looked c.args.file (given c.is_there.result)) _ _ tt
    c.is_there.ensures.call

pub returns-in-Err-clause-steps : goal.returns-in-Err-clause-steps
returns-in-Err-clause-steps g c =
    on_gentle g.F.File.Disk.disk g.F.File.Counted.seen (Looked c.args.file (given c.is_there.result)) _ _ tt
    c.is_there.ensures.call
