use Rattle.std.proofs.lemmas.Result.{on_ok_weaker}
use Rattle.owner_mail.proofs.StatusLaws.{tells_status}
use Rattle.owner_mail.proofs.status.say_status.Goals as goal

pub returns-clause-told : goal.returns-clause-told
returns-clause-told g c =
    on_ok_weaker c.say.result
    (λ said. tells_status c.args.ledger.now.state c.args.full _ _ _ _ _ _ c.in_ok-say_pair.ensures.said
    c.in_ok-say_boxes.ensures.said c.in_ok-work.ensures c.as_str.ensures.value said)
    c.say.ensures.said
