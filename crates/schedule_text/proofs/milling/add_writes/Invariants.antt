use Rattle.std.proofs.Common.{◌≡◌, ◌++◌}
use Rattle.schedule_text.specs.Mill.{mill_writes}
use Rattle.schedule_text.proofs.milling.add_writes.Given as goal

abbrev pub invariant-loop-j : goal.invariant-loop-j
invariant-loop-j l = l.events.items ≡ l.fn.events.items ++ mill_writes l.seed l.j
