use Rattle.std.proofs.Common.{◌≡◌, ◌++◌, length}
use Rattle.desk_entries.specs.Forgetting.{kept}
use Rattle.desk_entries.proofs.forgetting.kept.Given as goal

abbrev pub invariant-loop-rest : goal.invariant-loop-rest
invariant-loop-rest l = l.found.items ++ kept l.rest ≡ kept l.entries

abbrev pub decreases-loop-rest : goal.decreases-loop-rest
decreases-loop-rest l = length l.rest
