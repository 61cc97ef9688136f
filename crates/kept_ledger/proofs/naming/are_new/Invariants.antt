use Rattle.std.proofs.Common.{◌≡◌, length}
use Rattle.kept_ledger.specs.Ledgers.{are_new}
use Rattle.kept_ledger.proofs.naming.are_new.Given as goal

abbrev pub invariant-loop-rest : goal.invariant-loop-rest
invariant-loop-rest l = are_new l.named l.rest ≡ are_new l.named l.addresses

abbrev pub decreases-loop-rest : goal.decreases-loop-rest
decreases-loop-rest l = length l.rest
