use Rattle.std.proofs.Common.{refl}
use Rattle.std.proofs.lemmas.Result.{on_ok_weaker}
use Rattle.desk_run.proofs.WordLaws.{opens_boxes}
use Rattle.desk_run.proofs.boxes.register.Goals as goal

pub returns-clause-done : goal.returns-clause-done
returns-clause-done g c =
    on_ok_weaker c.tell_card.result
    (λ told old resumes.
    opens_boxes g.F.File.Disk.disk c.args.wanted c.in_ok-day.day old _ _ c.args.ledger.now c.want.new.ledger c.carry_on.new.ledger
    c.in_ok-day.ensures.named resumes c.in_ok-check_room.ensures.room c.in_ok-used.ensures.wants c.in_ok-carry_on.ensures.goes c.in_ok-carry_on.ensures.nothing_left refl told)
    c.tell_card.ensures.told
