use Rattle.owner_work.proofs.NetLaws.{sends_ledger}
use Rattle.owner_work.proofs.OnlyLaws.{heard_works}
use Rattle.owner_work.proofs.settling.work_on.Goals as goal

pub returns-in-Ok-clause-sends : goal.returns-in-Ok-clause-sends
returns-in-Ok-clause-sends g c =
    sends_ledger g.D.Disk.disk g.D.Counted.seen c.args.kept.now c.work_ledger.new.kept c.work_ledger.result
    (g.N.Counted.seen c.args.net.now).calls (g.N.Counted.seen c.work_ledger.new.net).calls
    c.work_ledger.ensures.worked

pub returns-in-Err-clause-sends : goal.returns-in-Err-clause-sends
returns-in-Err-clause-sends g c =
    sends_ledger g.D.Disk.disk g.D.Counted.seen c.args.kept.now c.work_ledger.new.kept c.work_ledger.result
    (g.N.Counted.seen c.args.net.now).calls (g.N.Counted.seen c.work_ledger.new.net).calls
    c.work_ledger.ensures.worked

pub returns-in-Ok-clause-only : goal.returns-in-Ok-clause-only
returns-in-Ok-clause-only g c =
    heard_works c.args.kept.now.machine.ledger.state c.work_ledger.new.kept.machine.ledger.state
    c.work_ledger.ensures.hears

pub returns-in-Err-clause-only : goal.returns-in-Err-clause-only
returns-in-Err-clause-only g c =
    heard_works c.args.kept.now.machine.ledger.state c.work_ledger.new.kept.machine.ledger.state
    c.work_ledger.ensures.hears
