use Rattle.std.proofs.lemmas.Result.{on_ok_weaker}
use Rattle.desk_run.proofs.StandLaws.{status_none, status_some}
use Rattle.desk_run.proofs.standing.say_desk.Goals as goal

pub returns-in-Some-clause-told : goal.returns-in-Some-clause-told
returns-in-Some-clause-told g c =
    on_ok_weaker c.say_ledger.result (λ tells. status_some _ _ _ _ c.in-Some.is tells) c.say_ledger.ensures.told

pub returns-in-None-clause-told : goal.returns-in-None-clause-told
returns-in-None-clause-told g c = on_ok_weaker c.say.result (λ took. status_none _ _ _ c.in-None.is took) c.say.ensures.said
