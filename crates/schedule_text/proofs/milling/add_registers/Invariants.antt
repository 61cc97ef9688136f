use Rattle.std.proofs.Common.{◌≡◌, ◌++◌}
use Rattle.schedule_text.specs.Mill.{mill_registers}
use Rattle.schedule_text.proofs.milling.add_registers.Given as goal

abbrev pub invariant-loop-i : goal.invariant-loop-i
invariant-loop-i l = l.events.items ≡ l.fn.events.items ++ mill_registers l.seed l.i
