use Rattle.std.proofs.Common.{◌≡◌, take, true, All}
use Rattle.many_conns.specs.Hall.{IsOldestOf}
use Rattle.many_conns.proofs.rooms.oldest.Given as goal

abbrev pub invariant-loop-place : goal.invariant-loop-place
invariant-loop-place l = record {
  full : All (λ p. p.door ≡ l.door → p.live ≡ true) (take l.place l.places);
  oldest : IsOldestOf l.door (take l.place l.places) l.places l.best;
}
