use Rattle.std.proofs.Common.{◌≡◌, length}
use Rattle.desk_entries.specs.Standings.{standing_in}
use Rattle.desk_entries.proofs.standing.standing_of.Given as goal

abbrev pub invariant-loop-rest : goal.invariant-loop-rest
invariant-loop-rest l = standing_in l.entries l.address l.rest ≡ standing_in l.entries l.address l.entries

abbrev pub decreases-loop-rest : goal.decreases-loop-rest
decreases-loop-rest l = length l.rest
