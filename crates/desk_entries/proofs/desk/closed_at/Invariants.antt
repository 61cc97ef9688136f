use Rattle.std.proofs.Common.{◌≡◌, length}
use Rattle.desk_entries.specs.Desks.{closed_at}
use Rattle.desk_entries.proofs.desk.closed_at.Given as goal

abbrev pub invariant-loop-rest : goal.invariant-loop-rest
invariant-loop-rest l = closed_at l.rest l.name ≡ closed_at l.entries l.name

abbrev pub decreases-loop-rest : goal.decreases-loop-rest
decreases-loop-rest l = length l.rest
