use Rattle.std.proofs.Common.{◌≡◌, ◌≤◌, ◌+◌, length}
use Rattle.std.specs.List.{filter}
use Rattle.kept_ledger.specs.declared.standing.Standing.TheVariants as standing
use Rattle.kept_ledger.specs.Standings.{stands}
use Rattle.kept_ledger.proofs.ledger.Ledger.how_many_wait.Given as goal

abbrev pub invariant-loop-rest : goal.invariant-loop-rest
invariant-loop-rest l =
    record {
      sum : l.count + length (filter (stands l.self.state standing.Waiting) l.rest) ≡ length (filter (stands l.self.state standing.Waiting) l.addresses);
      few : l.count + length l.rest ≤ length l.addresses;
    }

abbrev pub decreases-loop-rest : goal.decreases-loop-rest
decreases-loop-rest l = length l.rest
