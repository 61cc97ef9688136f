use Rattle.desk_run.proofs.WorkLaws.{does_asked, settled_map}
use Rattle.desk_run.proofs.carrying.do_task.Goals as goal

pub returns-in-Ok-clause-does : goal.returns-in-Ok-clause-does
returns-in-Ok-clause-does g c =
    settled_map c.settle.result _ _
    (λ refused settles. does_asked g.D.Disk.disk g.D.Counted.seen c.args.task refused c.args.ledger.now c.ask.new.self c.settle.new.ledger _ _ _
    (rw c.in-Ok.is at c.in_ok-ask.ensures.taken) c.in_ok-ask.ensures.keeps c.ask.ensures.entries c.ask.ensures.pair settles)
    c.settle.ensures.settles
