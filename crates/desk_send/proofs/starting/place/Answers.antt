use Rattle.desk_steps.proofs.StepLaws.{on_letter}
use Rattle.desk_send.proofs.starting.place.Goals as goal

pub returns-in-Ok-clause-steps : goal.returns-in-Ok-clause-steps
returns-in-Ok-clause-steps g c =
    on_letter g.F.File.Disk.disk g.F.File.Counted.seen c.args.slot c.args.letter.now _ _ _ c.requires.unsent
    c.put_in_place.ensures.call

pub returns-in-Err-clause-steps : goal.returns-in-Err-clause-steps
returns-in-Err-clause-steps g c =
    on_letter g.F.File.Disk.disk g.F.File.Counted.seen c.args.slot c.args.letter.now _ _ _ c.requires.unsent
    c.put_in_place.ensures.call
