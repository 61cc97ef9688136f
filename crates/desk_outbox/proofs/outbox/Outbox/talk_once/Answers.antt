use Rattle.desk_outbox.proofs.WorkLaws.{missed_net}
use Rattle.desk_outbox.proofs.outbox.Outbox.talk_once.Goals as goal

pub returns-in-Err-clause-net_fault : goal.returns-in-Err-clause-net_fault
returns-in-Err-clause-net_fault g c = missed_net g.D.Disk.disk g.D.Counted.seen _ _ _ _ _ _ c.miss.ensures.does c.in-Err.ensures.fault
