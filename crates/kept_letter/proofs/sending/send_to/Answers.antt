use Rattle.kept_letter.proofs.SentLaws.{disk_ended, ended_so, net_ended, worked_there}
use Rattle.kept_letter.proofs.sending.send_to.Goals as goal

pub returns-in-Ok-clause-sent : goal.returns-in-Ok-clause-sent
returns-in-Ok-clause-sent g c =
    let ends = rw (c.letter.ensures, c.machine.ensures.value) at c.end_in.ensures in
    ended_so g.D.Disk.disk g.D.Counted.seen _ _ _ _ _
    (worked_there g.D.Disk.disk g.D.Counted.seen _ _ _ _ _ _ c.requires.places c.requires.durable
    c.in-Ok.ensures.works) ends

pub returns-in-Err-clause-sent : goal.returns-in-Err-clause-sent
returns-in-Err-clause-sent g c =
    worked_there g.D.Disk.disk g.D.Counted.seen _ _ _ _ _ _ c.requires.places c.requires.durable
    c.in-Err.ensures.works

pub returns-in-Ok-clause-net_fault : goal.returns-in-Ok-clause-net_fault
returns-in-Ok-clause-net_fault g c =
    net_ended c.letter.result.now c.end_in.result _ _ c.end_in.ensures c.in-Ok.ensures.net_fault

pub returns-in-Ok-clause-disk_fault : goal.returns-in-Ok-clause-disk_fault
returns-in-Ok-clause-disk_fault g c =
    disk_ended c.letter.result.now c.end_in.result _ _ c.end_in.ensures c.in-Ok.ensures.disk_fault
