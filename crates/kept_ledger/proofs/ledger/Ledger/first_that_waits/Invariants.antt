use Rattle.std.proofs.Common.{◌≡◌, length}
use Rattle.std.specs.Prelude.{slice_get}
use Rattle.std.specs.List.{filter}
use Rattle.kept_ledger.specs.declared.standing.Standing.TheVariants as standing
use Rattle.kept_ledger.specs.Standings.{stands}
use Rattle.kept_ledger.proofs.ledger.Ledger.first_that_waits.Given as goal

abbrev pub invariant-loop-rest : goal.invariant-loop-rest
invariant-loop-rest l =
    slice_get (filter (stands l.self.state standing.Waiting) l.rest) 0 ≡ slice_get (filter (stands l.self.state standing.Waiting) l.addresses) 0

abbrev pub decreases-loop-rest : goal.decreases-loop-rest
decreases-loop-rest l = length l.rest
