use Rattle.std.proofs.Common.{◌≡◌}
use Rattle.mio_wires.proofs.slots.note_reports.Given as goal

abbrev pub invariant-loop-event : goal.invariant-loop-event
invariant-loop-event l = l.slots.items ≡ l.fn.slots.items
