use Rattle.std.specs.Prelude.{is_err}
use Rattle.desk_outside.specs.Calls.{Adopted}
use Rattle.desk_run.proofs.StepLaws.{on_gentle}
use Rattle.desk_run.proofs.adopting.mark.Goals as goal

pub returns-in-Ok-clause-steps : goal.returns-in-Ok-clause-steps
returns-in-Ok-clause-steps g c =
    on_gentle g.F.File.Disk.disk g.F.File.Counted.seen (Adopted (is_err c.adopt.result)) _ _ tt c.adopt.ensures.call

pub returns-in-Err-clause-steps : goal.returns-in-Err-clause-steps
returns-in-Err-clause-steps g c =
    on_gentle g.F.File.Disk.disk g.F.File.Counted.seen (Adopted (is_err c.adopt.result)) _ _ tt c.adopt.ensures.call
