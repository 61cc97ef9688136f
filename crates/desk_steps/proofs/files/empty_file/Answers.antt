use Rattle.std.specs.Prelude.{is_err}
use Rattle.desk_outside.specs.Calls.{Removed}
use Rattle.desk_steps.proofs.StepLaws.{on_gentle}
use Rattle.desk_steps.proofs.files.empty_file.Goals as goal

pub returns-then-is_err-clause-steps : goal.returns-then-is_err-clause-steps
returns-then-is_err-clause-steps g c =
    on_gentle g.F.File.Disk.disk g.F.File.Counted.seen (Removed c.args.next (is_err c.remove.result)) _ _
    c.requires.next c.remove.ensures.call

pub returns-clause-steps : goal.returns-clause-steps
returns-clause-steps g c = λ start s. c.open_file.ensures.steps start
    (on_gentle g.F.File.Disk.disk g.F.File.Counted.seen (Removed c.args.next (is_err c.remove.result)) _ _
    c.requires.next c.remove.ensures.call start s)
