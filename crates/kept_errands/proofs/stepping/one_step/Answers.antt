use Rattle.std.proofs.Common.{Ok, Err}
use Rattle.client_core.specs.declared.progress.Progress.{Progress}
use Rattle.kept_errands.proofs.StepLaws.{heard_step, lost_step, stands_by, counts_by, net_by}
use Rattle.kept_errands.proofs.stepping.one_step.Goals as goal

pub returns-in-Ok-hear-clause-step : goal.returns-in-Ok-hear-clause-step
returns-in-Ok-hear-clause-step g c =
    heard_step _ g.D.Disk.disk g.D.Counted.seen _ _ (Ok c.in-Ok-hear.progress) _ _ _ c.in-Ok.ensures.talked
    c.in-Ok-hear.ensures.progress c.in-Ok-hear.ensures.no_step c.in-Ok-hear.ensures.keeps

pub returns-in-Err-hear-clause-step : goal.returns-in-Err-hear-clause-step
returns-in-Err-hear-clause-step g c =
    heard_step _ g.D.Disk.disk g.D.Counted.seen _ _ (Err c.in-Err-hear.fault) _ _ _ c.in-Ok.ensures.talked
    c.in-Err-hear.ensures.progress c.in-Err-hear.ensures.no_step c.in-Err-hear.ensures.keeps

pub returns-in-Err-clause-step : goal.returns-in-Err-clause-step
returns-in-Err-clause-step g c =
    lost_step _ g.D.Disk.disk g.D.Counted.seen _ c.in-Err.why _ _ _ c.in-Err.ensures.talked c.from.ensures

pub returns-in-Ok-hear-clause-stands : goal.returns-in-Ok-hear-clause-stands
returns-in-Ok-hear-clause-stands g c =
    stands_by g.D.Disk.disk g.D.Counted.seen _ _ _ (Ok c.in-Ok-hear.progress) _
    c.in-Ok-hear.ensures.no_step c.in-Ok-hear.ensures.keeps c.in-Ok.ensures.stands

pub returns-in-Err-hear-clause-stands : goal.returns-in-Err-hear-clause-stands
returns-in-Err-hear-clause-stands g c =
    stands_by g.D.Disk.disk g.D.Counted.seen _ _ _ (Err c.in-Err-hear.fault) _
    c.in-Err-hear.ensures.no_step c.in-Err-hear.ensures.keeps c.in-Ok.ensures.stands

pub returns-in-Ok-hear-clause-disk_fault : goal.returns-in-Ok-hear-clause-disk_fault
returns-in-Ok-hear-clause-disk_fault g c =
    counts_by g.D.Disk.disk g.D.Counted.seen _ _ _ (Ok c.in-Ok-hear.progress) _
    c.in-Ok-hear.ensures.no_step c.in-Ok-hear.ensures.keeps

pub returns-in-Err-hear-clause-disk_fault : goal.returns-in-Err-hear-clause-disk_fault
returns-in-Err-hear-clause-disk_fault g c =
    counts_by g.D.Disk.disk g.D.Counted.seen _ _ _ (Err c.in-Err-hear.fault) _
    c.in-Err-hear.ensures.no_step c.in-Err-hear.ensures.keeps

pub returns-in-Err-clause-net_fault : goal.returns-in-Err-clause-net_fault
returns-in-Err-clause-net_fault g c = net_by Progress c.in-Err.why _ _ _ c.from.ensures c.in-Err.ensures.fault
