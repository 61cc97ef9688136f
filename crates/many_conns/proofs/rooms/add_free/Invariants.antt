use Rattle.std.proofs.Common.{◌≡◌, ◌++◌, replicate}
use Rattle.many_conns.specs.Places.{empty_place}
use Rattle.many_conns.proofs.rooms.add_free.Given as goal

abbrev pub invariant-loop : goal.invariant-loop
invariant-loop l = l.places.items ≡ l.fn.places.items ++ replicate l.counter (empty_place l.door)
