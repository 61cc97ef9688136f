use Rattle.std.proofs.Common.{◌≡◌, ◌++◌, length, take, drop, map}
use Rattle.many_conns.specs.Places.{released}
use Rattle.many_conns.proofs.routing.release_all.Given as goal

abbrev pub invariant-loop-place : goal.invariant-loop-place
invariant-loop-place l = record {
  count : l.place-end ≡ length l.fn.places.items;
  places : l.places.items ≡ map (released l.key) (take l.place l.fn.places.items) ++ drop l.place l.fn.places.items;
}
