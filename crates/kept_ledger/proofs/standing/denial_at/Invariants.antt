use Rattle.std.proofs.Common.{◌≡◌, length}
use Rattle.std.specs.List.{find}
use Rattle.kept_ledger.specs.Standings.{is_denied_at}
use Rattle.kept_ledger.proofs.standing.denial_at.Given as goal

abbrev pub invariant-loop-rest : goal.invariant-loop-rest
invariant-loop-rest l =
    find (is_denied_at l.address) l.rest ≡ find (is_denied_at l.address) l.denied

abbrev pub decreases-loop-rest : goal.decreases-loop-rest
decreases-loop-rest l = length l.rest
