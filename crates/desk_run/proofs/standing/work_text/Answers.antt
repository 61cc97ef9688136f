use Rattle.desk_run.proofs.StandLaws.{tells_work}
use Rattle.desk_run.proofs.standing.work_text.Goals as goal

pub returns : goal.returns
returns g c =
    tells_work c.args.ledger.now c.in_ok-is_done.is_done c.in_ok-letters.letters c.new_count-new.result c.fullness-full.result _
    c.in_ok-is_done.ensures c.in_ok-letters.ensures c.new_count-new.ensures c.fullness-full.ensures c.in_ok-text.ensures
