use Rattle.std.proofs.Common.{ap, subst, List, Option, ℕ}
use Rattle.std.proofs.lemmas.Result.{IfOk-weaker}
use Rattle.desk_run.specs.Printing.{Prints, TellsMet}
use Rattle.desk_run.proofs.forgetting.forget.Goals as goal

pub returns-clause-done : goal.returns-clause-done
returns-clause-done g c = IfOk-weaker c.show_and_renew-end.result _ _ (λ end does. does _ c.in_ok-ledger.ensures.settled) c.show_and_renew-end.ensures.done

pub returns-clause-met : goal.returns-clause-met
returns-clause-met g c is =
    let out_is = ap (λ out. (g.K.Counted.seen out).written) c.in_ok-ledger.ensures.out in
    subst (λ (w : Option (List ℕ)). Prints TellsMet w (g.K.Counted.seen c.show_and_renew-end.new.around.out).written) out_is
    (c.show_and_renew-end.ensures.met is)
