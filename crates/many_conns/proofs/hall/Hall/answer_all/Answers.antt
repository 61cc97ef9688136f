use Rattle.std.proofs.Common.{◌∙◌, sym, subst}
use Rattle.many_conns.specs.Hall.{IsServed}
use Rattle.many_conns.proofs.LeadLaws.{leads_then}
use Rattle.many_conns.proofs.HandleLaws.{kept_served}
use Rattle.many_conns.proofs.hall.Hall.answer_all.Goals as goal

pub answering-preserved : goal.answering-preserved
answering-preserved g c = record {
  leads = leads_then _ _ _ _ _ _ _ c.answering.invariant.leads c.answer_one.ensures.leads;
  goes_on = g.met.H.Hub.goes_on_then _ _ _ c.answering.invariant.goes_on c.answer_one.ensures.goes_on;
  looked = λ looked. c.answer_one.ensures.looked (c.answering.invariant.looked looked);
  served = λ served. kept_served g.S.Answering.rules c.answering.self c.answer_one.new.self c.answer_one.ensures.served
      c.answering-test.ensures.fewer (c.answering.invariant.served served);
}

pub returns-clause-leads : goal.returns-clause-leads
returns-clause-leads g c = leads_then _ _ _ _ _ _ _ c.answering.invariant.leads c.answer_one.ensures.leads

pub returns-clause-served : goal.returns-clause-served
returns-clause-served g c = λ served.
    subst (IsServed g.S.Answering.rules) (sym c.answering-test.ensures.same) (c.answering.invariant.served served)
