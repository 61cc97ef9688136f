use Rattle.std.proofs.Common.{◌≡◌, ◌++◌, length, map}
use Rattle.std.specs.List.{filter}
use Rattle.kept_ledger.specs.Standings.{is_read_at, readings_of}
use Rattle.kept_ledger.proofs.ledger.Ledger.readings_of.Given as goal

abbrev pub invariant-loop-rest : goal.invariant-loop-rest
invariant-loop-rest l =
    map (λ r. r.now) l.found.items ++ filter (is_read_at l.addresses) l.rest ≡ readings_of l.self.state l.name

abbrev pub decreases-loop-rest : goal.decreases-loop-rest
decreases-loop-rest l = length l.rest
