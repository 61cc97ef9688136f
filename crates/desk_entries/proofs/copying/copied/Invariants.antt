use Rattle.std.proofs.Common.{◌≡◌, ◌++◌, length}
use Rattle.desk_entries.proofs.copying.copied.Given as goal

abbrev pub invariant-loop-rest : goal.invariant-loop-rest
invariant-loop-rest l = l.found.items ++ l.rest ≡ l.entries

abbrev pub decreases-loop-rest : goal.decreases-loop-rest
decreases-loop-rest l = length l.rest
