use Rattle.kept_ledger.proofs.WorkLaws.{hears_only, worked_at}
use Rattle.kept_ledger.proofs.working.work_at.Goals as goal

pub returns-in-Ok-clause-worked : goal.returns-in-Ok-clause-worked
returns-in-Ok-clause-worked g c =
    worked_at g.D.Disk.disk g.D.Counted.seen _ _ _ _ _ _ c.requires.places c.requires.durable
    c.in-Ok.ensures.works

pub returns-in-Err-clause-worked : goal.returns-in-Err-clause-worked
returns-in-Err-clause-worked g c =
    worked_at g.D.Disk.disk g.D.Counted.seen _ _ _ _ _ _ c.requires.places c.requires.durable
    c.in-Err.ensures.works

pub returns-in-Ok-clause-hears : goal.returns-in-Ok-clause-hears
returns-in-Ok-clause-hears g c = hears_only g.D.Disk.disk g.D.Counted.seen _ _ _ _ _ _ c.in-Ok.ensures.works

pub returns-in-Err-clause-hears : goal.returns-in-Err-clause-hears
returns-in-Err-clause-hears g c = hears_only g.D.Disk.disk g.D.Counted.seen _ _ _ _ _ _ c.in-Err.ensures.works
