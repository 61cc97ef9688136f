use Rattle.std.proofs.lemmas.Result.{on_ok_weaker}
use Rattle.desk_run.proofs.StandLaws.{tells_desk}
use Rattle.desk_run.proofs.standing.say_ledger.Goals as goal

pub returns-clause-told : goal.returns-clause-told
returns-clause-told g c =
    on_ok_weaker c.say-2.result
    (λ said. tells_desk c.args.ledger.now _ _ _ _ _ _ _ _ _ _ c.as_str.ensures.value c.in_ok-pair.ensures c.pair.ensures
    c.in_ok-say.ensures.said c.in_ok-say_boxes.ensures.said c.entries.ensures.value c.in_ok-work.ensures c.as_str-2.ensures.value
    said)
    c.say-2.ensures.said
