use Rattle.many_conns.specs.Hall.{Leads, IsSettled, RoundsOf}
use Rattle.many_conns.proofs.hall.Hall.serve.Given as goal

abbrev pub invariant-loop : goal.invariant-loop
invariant-loop g l = record {
  leads : Leads g.S.Answering.rules (g.H.Hub.told l.fn.hub) (g.H.Hub.told l.hub) l.fn.self l.self;
  goes_on : g.H.Hub.goes_on l.fn.hub l.hub;
  rounds : RoundsOf g.S.Answering.rules l.counter (g.H.Hub.told l.fn.hub) (g.H.Hub.told l.hub) l.fn.self l.self;
  settled : IsSettled g.S.Answering.rules l.self;
}
