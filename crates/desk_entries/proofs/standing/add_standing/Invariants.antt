use Rattle.std.proofs.Common.{◌≡◌, ◌++◌, length}
use Rattle.std.specs.List.{filter}
use Rattle.desk_entries.specs.Standings.{stands}
use Rattle.desk_entries.proofs.standing.add_standing.Given as goal

abbrev pub invariant-loop-rest : goal.invariant-loop-rest
invariant-loop-rest l =
    l.found.items ++ filter (stands l.entries l.standing) l.rest
    ≡ l.fn.found.items ++ filter (stands l.entries l.standing) l.addresses

abbrev pub decreases-loop-rest : goal.decreases-loop-rest
decreases-loop-rest l = length l.rest
