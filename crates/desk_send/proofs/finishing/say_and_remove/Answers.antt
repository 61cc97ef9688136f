use Rattle.std.specs.Prelude.{is_err}
use Rattle.desk_steps.proofs.StepLaws.{on_over}
use Rattle.desk_send.proofs.finishing.say_and_remove.Goals as goal

pub returns-in-Ok-clause-steps : goal.returns-in-Ok-clause-steps
returns-in-Ok-clause-steps g c =
    on_over g.F.File.Disk.disk g.F.File.Counted.seen c.args.slot
    (is_err c.remove.result) _ _ c.requires.over c.remove.ensures.call

pub returns-in-Err-clause-steps : goal.returns-in-Err-clause-steps
returns-in-Err-clause-steps g c =
    on_over g.F.File.Disk.disk g.F.File.Counted.seen c.args.slot
    (is_err c.remove.result) _ _ c.requires.over c.remove.ensures.call
