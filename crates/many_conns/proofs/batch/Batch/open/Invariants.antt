use Rattle.std.proofs.Common.{◌≡◌, length}
use Rattle.many_conns.proofs.batch.Batch.open.Given as goal

abbrev pub invariant-loop : goal.invariant-loop
invariant-loop l = length l.rooms.items ≡ l.counter
