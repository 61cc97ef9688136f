use Rattle.std.proofs.Common.{length, All}
use Rattle.many_conns.specs.Hall.{Leads, IsLooked, IsServed}
use Rattle.many_conns.proofs.hall.Hall.answer_all.Given as goal

abbrev pub invariant-answering : goal.invariant-answering
invariant-answering g l = record {
  leads : Leads g.S.Answering.rules (g.H.Hub.told l.fn.hub) (g.H.Hub.told l.hub) l.fn.self l.self;
  goes_on : g.H.Hub.goes_on l.fn.hub l.hub;
  looked : All IsLooked l.fn.self.places → All IsLooked l.self.places;
  served : IsServed g.S.Answering.rules l.fn.self → IsServed g.S.Answering.rules l.self;
}

abbrev pub decreases-answering : goal.decreases-answering
decreases-answering g l = length l.self.owed
