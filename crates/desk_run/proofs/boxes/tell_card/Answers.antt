use Rattle.std.proofs.lemmas.Result.{on_ok_weaker}
use Rattle.desk_run.proofs.WordLaws.{tells_card}
use Rattle.desk_run.proofs.boxes.tell_card.Goals as goal

pub returns-clause-told : goal.returns-clause-told
returns-clause-told g c =
    on_ok_weaker c.say.result
    (λ said. tells_card c.args.ledger.now c.args.name.now _ _ _ c.in_ok-show_card.ensures.card said) c.say.ensures.said
