use Rattle.mio_wires.specs.Slots.{Flushes}
use Rattle.mio_wires.proofs.slot.Slot.flush.Given as goal

abbrev pub invariant-loop : goal.invariant-loop
invariant-loop l = Flushes l.fn.self l.self
