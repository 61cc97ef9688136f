use Rattle.std.proofs.Common.{◌≡◌, drop}
use Rattle.many_conns.specs.Routes.{waiter}
use Rattle.many_conns.proofs.routing.waiter.Given as goal

abbrev pub invariant-loop-place : goal.invariant-loop-place
invariant-loop-place l = waiter l.key l.place (drop l.place l.places.items) ≡ waiter l.key 0 l.places.items
