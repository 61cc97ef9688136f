use Rattle.desk_run.proofs.Asked.{asked_none, asked_some, done, done_undone, ends, ends_undone, not_refused, quiet, refused_one}
use Rattle.desk_run.specs.Sends.{nothing}
use Rattle.desk_run.specs.FolderSteps.{still}
use Rattle.desk_run.proofs.SendLaws.{sends_all}
use Rattle.desk_run.proofs.StepLaws.{steps_all}
use Rattle.desk_run.proofs.StatusLaws.{only_one}
use Rattle.desk_run.proofs.top.run_desk.Goals as goal

-- ---- words of a desk

pub returns-in-Ok-Some-clause-ends : goal.returns-in-Ok-Some-clause-ends
returns-in-Ok-Some-clause-ends g c some =
    ends _ _ _ (rw c.in-Ok-Some.field-0-is at c.in-Ok-Some.ensures.task) c.run_task.ensures.ends

pub returns-in-Ok-Some-clause-wrong : goal.returns-in-Ok-Some-clause-wrong
returns-in-Ok-Some-clause-wrong g c none =
    absurd (asked_some _ _ (rw c.in-Ok-Some.field-0-is at c.in-Ok-Some.ensures.task) none)

pub returns-in-Ok-Some-clause-rests : goal.returns-in-Ok-Some-clause-rests
returns-in-Ok-Some-clause-rests g c none =
    absurd (asked_some _ _ (rw c.in-Ok-Some.field-0-is at c.in-Ok-Some.ensures.task) none)

pub returns-in-Ok-Some-clause-folder_rests : goal.returns-in-Ok-Some-clause-folder_rests
returns-in-Ok-Some-clause-folder_rests g c none =
    absurd (asked_some _ _ (rw c.in-Ok-Some.field-0-is at c.in-Ok-Some.ensures.task) none)

pub returns-in-Ok-Some-clause-quiet : goal.returns-in-Ok-Some-clause-quiet
returns-in-Ok-Some-clause-quiet g c none =
    c.run_task.ensures.quiet (quiet _ _ (rw c.in-Ok-Some.field-0-is at c.in-Ok-Some.ensures.task) none)

pub returns-in-Ok-Some-clause-done : goal.returns-in-Ok-Some-clause-done
returns-in-Ok-Some-clause-done g c some =
    done g.F.File.Disk.disk g.F.File.Counted.seen _ _ _ _ _ (rw c.in-Ok-Some.field-0-is at c.in-Ok-Some.ensures.task)
    c.run_task.ensures.done

pub returns-in-Ok-Some-clause-steps : goal.returns-in-Ok-Some-clause-steps
returns-in-Ok-Some-clause-steps g c = steps_all g.F.File.Disk.disk g.F.File.Counted.seen _ _ c.run_task.ensures.steps

pub returns-in-Ok-Some-clause-sends : goal.returns-in-Ok-Some-clause-sends
returns-in-Ok-Some-clause-sends g c = sends_all g.F.File.Disk.disk g.F.File.Counted.seen _ _ c.run_task.ensures.sends

-- ---- other words

pub returns-in-Ok-None-clause-ends : goal.returns-in-Ok-None-clause-ends
returns-in-Ok-None-clause-ends g c some = absurd (asked_none _ (rw c.in-Ok-None.field-0-is at c.in-Ok-None.ensures.task) some)

pub returns-in-Ok-None-clause-held : goal.returns-in-Ok-None-clause-held
returns-in-Ok-None-clause-held g c four = absurd (not_refused 4 _ (λ e. cc) (λ e. cc) c.refuse.ensures.either four)

pub returns-in-Ok-None-clause-done : goal.returns-in-Ok-None-clause-done
returns-in-Ok-None-clause-done g c some = absurd (asked_none _ (rw c.in-Ok-None.field-0-is at c.in-Ok-None.ensures.task) some)

pub returns-in-Ok-None-clause-met : goal.returns-in-Ok-None-clause-met
returns-in-Ok-None-clause-met g c five = absurd (not_refused 5 _ (λ e. cc) (λ e. cc) c.refuse.ensures.either five)

pub returns-in-Ok-None-clause-steps : goal.returns-in-Ok-None-clause-steps
returns-in-Ok-None-clause-steps g c = still

pub returns-in-Ok-None-clause-sends : goal.returns-in-Ok-None-clause-sends
returns-in-Ok-None-clause-sends g c = nothing

-- ---- no memory

pub returns-in-Err-clause-ends : goal.returns-in-Err-clause-ends
returns-in-Err-clause-ends g c some = ends_undone _ _ some (only_one _ c.finish.ensures.status)

pub returns-in-Err-clause-wrong : goal.returns-in-Err-clause-wrong
returns-in-Err-clause-wrong g c none = refused_one _ (only_one _ c.finish.ensures.status)

pub returns-in-Err-clause-held : goal.returns-in-Err-clause-held
returns-in-Err-clause-held g c four = let one = only_one _ c.finish.ensures.status in cc

pub returns-in-Err-clause-done : goal.returns-in-Err-clause-done
returns-in-Err-clause-done g c some =
    done_undone g.F.File.Disk.disk g.F.File.Counted.seen _ _ _ _ some (only_one _ c.finish.ensures.status)

pub returns-in-Err-clause-met : goal.returns-in-Err-clause-met
returns-in-Err-clause-met g c five = let one = only_one _ c.finish.ensures.status in cc

pub returns-in-Err-clause-steps : goal.returns-in-Err-clause-steps
returns-in-Err-clause-steps g c = still

pub returns-in-Err-clause-sends : goal.returns-in-Err-clause-sends
returns-in-Err-clause-sends g c = nothing
