use Rattle.std.proofs.Common.{◌≡◌, length}
use Rattle.std.specs.List.{find}
use Rattle.kept_ledger.specs.Standings.{stands_at}
use Rattle.kept_ledger.proofs.standing.box_at.Given as goal

abbrev pub invariant-loop-rest : goal.invariant-loop-rest
invariant-loop-rest l =
    find (stands_at l.address) l.rest ≡ find (stands_at l.address) l.boxes

abbrev pub decreases-loop-rest : goal.decreases-loop-rest
decreases-loop-rest l = length l.rest
