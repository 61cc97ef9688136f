use Rattle.std.proofs.Common.{refl}
use Rattle.std.proofs.lemmas.Result.{IfOk-weaker}
use Rattle.desk_run.proofs.sending.begin_anew.Goals as goal

pub returns-clause-begins : goal.returns-clause-begins
returns-clause-begins g c =
    IfOk-weaker c.start_free.result _ _
    (λ letter starts. record { mid = _; makes_way = c.in_ok-make_way.ensures.made; starts = starts; calls = refl; written = refl })
    c.start_free.ensures.starts
