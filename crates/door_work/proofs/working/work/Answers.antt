use Rattle.std.proofs.Common.{refl, ◌∙◌}
use Rattle.door_work.proofs.HaltLaws.{disk_from, err_over, net_from}
use Rattle.door_work.proofs.WorkLaws.{at_rest, halts_so, rests_so, standing, stands_more}
use Rattle.door_work.specs.declared.stepping.Course.{Course}
use Rattle.door_work.proofs.working.work.Goals as goal

pub steps-init : goal.steps-init
steps-init g c = record { stands = standing _ _ _ g.D.Disk.disk _ _; net = refl; disk = refl; door = refl }

pub steps-smaller : goal.steps-smaller
steps-smaller g c =
    let e = rw c.in-Ok-GoesOn.field-0-is at c.in-Ok-GoesOn.ensures.step in
    (stands_more _ _ _ g.D.Disk.disk g.D.Counted.seen _ _ _ _ _ _ c.steps.invariant.stands e).1

pub steps-preserved : goal.steps-preserved
steps-preserved g c =
    let e = rw c.in-Ok-GoesOn.field-0-is at c.in-Ok-GoesOn.ensures.step in
    record {
      stands = (stands_more _ _ _ g.D.Disk.disk g.D.Counted.seen _ _ _ _ _ _ c.steps.invariant.stands e).0;
      net = c.in-Ok-GoesOn.ensures.net_fault ∙ c.steps.invariant.net;
      disk = c.in-Ok-GoesOn.ensures.disk_fault ∙ c.steps.invariant.disk;
      door = c.one_step.ensures.door ∙ c.steps.invariant.door;
    }

pub returns-in-Ok-Rests-clause-works : goal.returns-in-Ok-Rests-clause-works
returns-in-Ok-Rests-clause-works g c =
    let e = rw c.in-Ok-Rests.field-0-is at c.in-Ok-Rests.ensures.step in
    rests_so _ _ _ g.D.Disk.disk g.D.Counted.seen _ _ _ _ _ _ c.steps.invariant.stands e

pub returns-in-Ok-Rests-clause-rests : goal.returns-in-Ok-Rests-clause-rests
returns-in-Ok-Rests-clause-rests g c =
    let e = rw c.in-Ok-Rests.field-0-is at c.in-Ok-Rests.ensures.step in
    at_rest _ _ _ g.D.Disk.disk g.D.Counted.seen _ _ _ _ e

pub returns-in-Err-clause-works : goal.returns-in-Err-clause-works
returns-in-Err-clause-works g c =
    halts_so _ _ _ g.D.Disk.disk g.D.Counted.seen _ _ _ _ _ _ _ c.steps.invariant.stands c.in-Err.ensures.step
    c.in-Err.ensures.again

pub returns-in-Err-clause-early : goal.returns-in-Err-clause-early
returns-in-Err-clause-early g c server n told =
    c.in-Err.ensures.early server n (err_over (Unit {0}) Course _ _ told)

pub returns-in-Ok-Rests-clause-net_fault : goal.returns-in-Ok-Rests-clause-net_fault
returns-in-Ok-Rests-clause-net_fault g c = c.in-Ok-Rests.ensures.net_fault ∙ c.steps.invariant.net

pub returns-in-Ok-Rests-clause-disk_fault : goal.returns-in-Ok-Rests-clause-disk_fault
returns-in-Ok-Rests-clause-disk_fault g c = c.in-Ok-Rests.ensures.disk_fault ∙ c.steps.invariant.disk

pub returns-in-Err-clause-net_fault : goal.returns-in-Err-clause-net_fault
returns-in-Err-clause-net_fault g c =
    net_from Course (Unit {0}) _ _ _ _ c.steps.invariant.net c.in-Err.ensures.net_fault

pub returns-in-Err-clause-disk_fault : goal.returns-in-Err-clause-disk_fault
returns-in-Err-clause-disk_fault g c =
    disk_from Course (Unit {0}) _ _ _ _ c.steps.invariant.disk c.in-Err.ensures.disk_fault
