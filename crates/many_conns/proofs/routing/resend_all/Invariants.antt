use Rattle.std.proofs.Common.{◌≤◌, ◌-◌, length, take}
use Rattle.many_conns.specs.Routes.{Resends}
use Rattle.many_conns.proofs.routing.resend_all.Given as goal

abbrev pub invariant-resending : goal.invariant-resending
invariant-resending g l = record {
  sent : Resends (g.H.Hub.told l.fn.hub) (g.H.Hub.told l.hub) l.place (take l.index (g.S.Answering.rules.outstanding l.server));
  goes_on : g.H.Hub.goes_on l.fn.hub l.hub;
  within : l.index ≤ length (g.S.Answering.rules.outstanding l.server);
}

abbrev pub decreases-resending : goal.decreases-resending
decreases-resending g l = length (g.S.Answering.rules.outstanding l.server) - l.index
