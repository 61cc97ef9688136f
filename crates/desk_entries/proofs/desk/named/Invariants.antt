use Rattle.std.proofs.Common.{◌≡◌, length}
use Rattle.desk_entries.specs.Desks.{named}
use Rattle.desk_entries.proofs.desk.named.Given as goal

abbrev pub invariant-loop-rest : goal.invariant-loop-rest
invariant-loop-rest l = named l.rest l.name ≡ named l.entries l.name

abbrev pub decreases-loop-rest : goal.decreases-loop-rest
decreases-loop-rest l = length l.rest
