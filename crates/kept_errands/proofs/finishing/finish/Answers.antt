use Rattle.std.proofs.Common.{refl, ◌∙◌}
use Rattle.client_core.specs.declared.progress.Progress.{Progress}
use Rattle.kept_errands.proofs.StepLaws.{halts_at, net_from, disk_from}
use Rattle.kept_errands.proofs.WorkLaws.{standing, stands_more, ends_so, later_so, ignored_so, halts_so}
use Rattle.kept_errands.proofs.finishing.finish.Goals as goal

pub steps-init : goal.steps-init
steps-init g c = record { busy = c.requires.busy; stands = standing _ _ _; net = refl; disk = refl; door = refl }

pub steps-smaller : goal.steps-smaller
steps-smaller g c =
    let e = rw c.in-Ok-Next.field-0-is at c.in-Ok-Next.ensures.step in
    (stands_more _ g.D.Disk.disk g.D.Counted.seen _ _ _ _ _ _ c.steps.invariant.stands e).2

pub steps-preserved : goal.steps-preserved
steps-preserved g c =
    let e = rw c.in-Ok-Next.field-0-is at c.in-Ok-Next.ensures.step in
    let more = stands_more _ g.D.Disk.disk g.D.Counted.seen _ _ _ _ _ _ c.steps.invariant.stands e in
    record {
      busy = more.1;
      stands = more.0;
      net = c.in-Ok-Next.ensures.net_fault ∙ c.steps.invariant.net;
      disk = c.in-Ok-Next.ensures.disk_fault ∙ c.steps.invariant.disk;
      door = c.one_step.ensures.door ∙ c.steps.invariant.door;
    }

pub returns-in-Ok-Finished-clause-works : goal.returns-in-Ok-Finished-clause-works
returns-in-Ok-Finished-clause-works g c =
    let e = rw c.in-Ok-Finished.field-0-is at c.in-Ok-Finished.ensures.step in
    (ends_so _ g.D.Disk.disk g.D.Counted.seen _ _ _ _ _ _ _ c.steps.invariant.stands e).worked

pub returns-in-Ok-Finished-clause-ended : goal.returns-in-Ok-Finished-clause-ended
returns-in-Ok-Finished-clause-ended g c =
    let e = rw c.in-Ok-Finished.field-0-is at c.in-Ok-Finished.ensures.step in
    (ends_so _ g.D.Disk.disk g.D.Counted.seen _ _ _ _ _ _ _ c.steps.invariant.stands e).ended

pub returns-in-Ok-Finished-clause-remarks : goal.returns-in-Ok-Finished-clause-remarks
returns-in-Ok-Finished-clause-remarks g c =
    let e = rw c.in-Ok-Finished.field-0-is at c.in-Ok-Finished.ensures.step in
    (ends_so _ g.D.Disk.disk g.D.Counted.seen _ _ _ _ _ _ _ c.steps.invariant.stands e).remarks

pub returns-in-Ok-Finished-clause-opening : goal.returns-in-Ok-Finished-clause-opening
returns-in-Ok-Finished-clause-opening g c =
    let e = rw c.in-Ok-Finished.field-0-is at c.in-Ok-Finished.ensures.step in
    (ends_so _ g.D.Disk.disk g.D.Counted.seen _ _ _ _ _ _ _ c.steps.invariant.stands e).opening

pub returns-in-Ok-Later-clause-works : goal.returns-in-Ok-Later-clause-works
returns-in-Ok-Later-clause-works g c =
    let e = rw c.in-Ok-Later.field-0-is at c.in-Ok-Later.ensures.step in
    (later_so _ g.D.Disk.disk g.D.Counted.seen _ _ _ _ _ _ _ c.steps.invariant.stands e).worked

pub returns-in-Ok-Later-clause-remarks : goal.returns-in-Ok-Later-clause-remarks
returns-in-Ok-Later-clause-remarks g c =
    let e = rw c.in-Ok-Later.field-0-is at c.in-Ok-Later.ensures.step in
    (later_so _ g.D.Disk.disk g.D.Counted.seen _ _ _ _ _ _ _ c.steps.invariant.stands e).remarks

pub returns-in-Ok-Later-clause-opening : goal.returns-in-Ok-Later-clause-opening
returns-in-Ok-Later-clause-opening g c =
    let e = rw c.in-Ok-Later.field-0-is at c.in-Ok-Later.ensures.step in
    (later_so _ g.D.Disk.disk g.D.Counted.seen _ _ _ _ _ _ _ c.steps.invariant.stands e).opening

pub returns-in-Ok-Ignored-clause-works : goal.returns-in-Ok-Ignored-clause-works
returns-in-Ok-Ignored-clause-works g c =
    let e = rw c.in-Ok-Ignored.field-0-is at c.in-Ok-Ignored.ensures.step in
    (ignored_so _ g.D.Disk.disk g.D.Counted.seen _ _ _ _ _ _ c.steps.invariant.stands e).worked

pub returns-in-Ok-Ignored-clause-remarks : goal.returns-in-Ok-Ignored-clause-remarks
returns-in-Ok-Ignored-clause-remarks g c =
    let e = rw c.in-Ok-Ignored.field-0-is at c.in-Ok-Ignored.ensures.step in
    (ignored_so _ g.D.Disk.disk g.D.Counted.seen _ _ _ _ _ _ c.steps.invariant.stands e).remarks

pub returns-in-Ok-Ignored-clause-opening : goal.returns-in-Ok-Ignored-clause-opening
returns-in-Ok-Ignored-clause-opening g c =
    let e = rw c.in-Ok-Ignored.field-0-is at c.in-Ok-Ignored.ensures.step in
    (ignored_so _ g.D.Disk.disk g.D.Counted.seen _ _ _ _ _ _ c.steps.invariant.stands e).opening

pub returns-in-Err-clause-works : goal.returns-in-Err-clause-works
returns-in-Err-clause-works g c =
    (halts_so _ g.D.Disk.disk g.D.Counted.seen _ _ _ _ _ _ _ c.steps.invariant.stands c.in-Err.ensures.step).worked

pub returns-in-Err-clause-keeps : goal.returns-in-Err-clause-keeps
returns-in-Err-clause-keeps g c =
    let t = c.in-Err.ensures.step in halts_at g.D.Disk.disk g.D.Counted.seen _ _ _ t.answer t.hears

pub returns-in-Err-clause-remarks : goal.returns-in-Err-clause-remarks
returns-in-Err-clause-remarks g c =
    (halts_so _ g.D.Disk.disk g.D.Counted.seen _ _ _ _ _ _ _ c.steps.invariant.stands c.in-Err.ensures.step).remarks

pub returns-in-Err-clause-opening : goal.returns-in-Err-clause-opening
returns-in-Err-clause-opening g c =
    (halts_so _ g.D.Disk.disk g.D.Counted.seen _ _ _ _ _ _ _ c.steps.invariant.stands c.in-Err.ensures.step).opening

pub returns-in-Ok-Finished-clause-net_fault : goal.returns-in-Ok-Finished-clause-net_fault
returns-in-Ok-Finished-clause-net_fault g c = c.in-Ok-Finished.ensures.net_fault ∙ c.steps.invariant.net

pub returns-in-Ok-Finished-clause-disk_fault : goal.returns-in-Ok-Finished-clause-disk_fault
returns-in-Ok-Finished-clause-disk_fault g c = c.in-Ok-Finished.ensures.disk_fault ∙ c.steps.invariant.disk

pub returns-in-Ok-Later-clause-net_fault : goal.returns-in-Ok-Later-clause-net_fault
returns-in-Ok-Later-clause-net_fault g c = c.in-Ok-Later.ensures.net_fault ∙ c.steps.invariant.net

pub returns-in-Ok-Later-clause-disk_fault : goal.returns-in-Ok-Later-clause-disk_fault
returns-in-Ok-Later-clause-disk_fault g c = c.in-Ok-Later.ensures.disk_fault ∙ c.steps.invariant.disk

pub returns-in-Ok-Ignored-clause-net_fault : goal.returns-in-Ok-Ignored-clause-net_fault
returns-in-Ok-Ignored-clause-net_fault g c = c.in-Ok-Ignored.ensures.net_fault ∙ c.steps.invariant.net

pub returns-in-Ok-Ignored-clause-disk_fault : goal.returns-in-Ok-Ignored-clause-disk_fault
returns-in-Ok-Ignored-clause-disk_fault g c = c.in-Ok-Ignored.ensures.disk_fault ∙ c.steps.invariant.disk

pub returns-in-Err-clause-net_fault : goal.returns-in-Err-clause-net_fault
returns-in-Err-clause-net_fault g c = net_from Progress (Unit {0}) _ _ _ _ c.steps.invariant.net c.in-Err.ensures.net_fault

pub returns-in-Err-clause-disk_fault : goal.returns-in-Err-clause-disk_fault
returns-in-Err-clause-disk_fault g c = disk_from Progress (Unit {0}) _ _ _ _ c.steps.invariant.disk c.in-Err.ensures.disk_fault
