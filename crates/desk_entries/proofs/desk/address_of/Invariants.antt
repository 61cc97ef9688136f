use Rattle.std.proofs.Common.{◌≡◌, length}
use Rattle.desk_entries.specs.Desks.{address_of}
use Rattle.desk_entries.proofs.desk.address_of.Given as goal

abbrev pub invariant-loop-rest : goal.invariant-loop-rest
invariant-loop-rest l = address_of l.rest l.registered ≡ address_of l.entries l.registered

abbrev pub decreases-loop-rest : goal.decreases-loop-rest
decreases-loop-rest l = length l.rest
