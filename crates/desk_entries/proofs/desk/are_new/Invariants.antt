use Rattle.std.proofs.Common.{◌≡◌, length}
use Rattle.desk_entries.specs.Desks.{are_new}
use Rattle.desk_entries.proofs.desk.are_new.Given as goal

abbrev pub invariant-loop-rest : goal.invariant-loop-rest
invariant-loop-rest l = are_new l.entries l.rest ≡ are_new l.entries l.addresses

abbrev pub decreases-loop-rest : goal.decreases-loop-rest
decreases-loop-rest l = length l.rest
