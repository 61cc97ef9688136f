use Rattle.std.proofs.Common.{inl}
use Rattle.desk_run.proofs.StatusLaws.{not_four}
use Rattle.desk_run.proofs.WordLaws.{alone}
use Rattle.desk_run.proofs.top.with_folder.Goals as goal

pub returns-clause-ends : goal.returns-clause-ends
returns-clause-ends g c = inl c.in_folder.ensures.ends

pub returns-clause-in_use : goal.returns-clause-in_use
returns-clause-in_use g c four = absurd (not_four c.args.asked.task _ c.in_folder.ensures.ends four)

pub returns-clause-held : goal.returns-clause-held
returns-clause-held g c four = absurd (not_four c.args.asked.task _ c.in_folder.ensures.ends four)

pub returns-clause-done : goal.returns-clause-done
returns-clause-done g c =
    alone g.F.File.Disk.disk g.F.File.Counted.seen c.args.asked.task c.in_folder.result _ _ _ c.in_ok-hold.ensures.held _
    c.in_ok-clear_all.ensures.cleared c.in_folder.ensures.done
