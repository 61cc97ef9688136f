use Rattle.std.proofs.Common.{◌≡◌, length}
use Rattle.desk_entries.specs.Desks.{name_at}
use Rattle.desk_entries.proofs.desk.name_at.Given as goal

abbrev pub invariant-loop-rest : goal.invariant-loop-rest
invariant-loop-rest l = name_at l.rest l.address ≡ name_at l.entries l.address

abbrev pub decreases-loop-rest : goal.decreases-loop-rest
decreases-loop-rest l = length l.rest
