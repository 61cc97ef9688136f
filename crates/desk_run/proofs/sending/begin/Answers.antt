use Rattle.std.proofs.Common.{inl, inr, refl}
use Rattle.std.proofs.lemmas.Result.{IfOk-weaker}
use Rattle.desk_run.proofs.sending.begin.Goals as goal

pub returns-in-Some-clause-begun : goal.returns-in-Some-clause-begun
returns-in-Some-clause-begun g c =
    inl (record { first = rw c.in-Some.is at c.in_ok-letter.ensures.searches; calls = refl; written = refl })

pub returns-in-None-clause-begun : goal.returns-in-None-clause-begun
returns-in-None-clause-begun g c =
    let nowhere = rw c.in-None.is at c.in_ok-letter.ensures.searches in
    IfOk-weaker c.begin_anew.result _ _ (λ letter begins. inr (record { searched = _; nowhere = nowhere; begins = begins }))
    c.begin_anew.ensures.begins
