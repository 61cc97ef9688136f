use Rattle.std.proofs.Common.{◌≡◌, []}
use Rattle.many_conns.specs.Hall.{Leads}
use Rattle.many_conns.proofs.hall.Hall.let_in.Given as goal

abbrev pub invariant-loop : goal.invariant-loop
invariant-loop g l = record {
  leads : Leads g.S.Answering.rules (g.H.Hub.told l.fn.hub) (g.H.Hub.told l.hub) l.fn.self l.self;
  goes_on : g.H.Hub.goes_on l.fn.hub l.hub;
  nothing_owed : l.self.owed ≡ [];
  served : l.self.served ≡ l.fn.self.served;
}
