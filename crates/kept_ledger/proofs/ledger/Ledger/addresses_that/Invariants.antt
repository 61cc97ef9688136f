use Rattle.std.proofs.Common.{◌≡◌, ◌++◌, length}
use Rattle.std.specs.List.{filter}
use Rattle.kept_ledger.specs.Standings.{addresses_that, stands}
use Rattle.kept_ledger.proofs.ledger.Ledger.addresses_that.Given as goal

abbrev pub invariant-loop-rest : goal.invariant-loop-rest
invariant-loop-rest l =
    l.found.items ++ filter (stands l.self.state l.standing) l.rest
    ≡ addresses_that l.self.state l.name l.standing

abbrev pub decreases-loop-rest : goal.decreases-loop-rest
decreases-loop-rest l = length l.rest
