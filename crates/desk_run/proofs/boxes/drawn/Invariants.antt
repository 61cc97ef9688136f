use Rattle.std.proofs.Common.{◌≡◌, length}
use Rattle.desk_run.proofs.boxes.drawn.Given as goal

abbrev pub invariant-loop : goal.invariant-loop
invariant-loop l = length l.addresses.items ≡ l.counter
