use Rattle.std.proofs.Common.{◌≡◌, [], length, take, All}
use Rattle.many_conns.specs.Hall.{Leads, IsLooked}
use Rattle.many_conns.proofs.hall.Hall.gather.Given as goal

abbrev pub invariant-loop-place : goal.invariant-loop-place
invariant-loop-place g l = record {
  leads : Leads g.S.Answering.rules (g.H.Hub.told l.fn.hub) (g.H.Hub.told l.hub) l.fn.self l.self;
  goes_on : g.H.Hub.goes_on l.fn.hub l.hub;
  nothing_owed : l.self.owed ≡ [];
  served : l.self.served ≡ l.fn.self.served;
  count : l.place-end ≡ length l.self.places;
  looked : All IsLooked (take l.place l.self.places);
}
