use Rattle.std.proofs.Common.{◌≡◌, ◌++◌, replicate}
use Rattle.mio_wires.specs.Slots.{vacant}
use Rattle.mio_wires.specs.Openings.{answer_room}
use Rattle.mio_wires.proofs.slots.add_vacant.Given as goal

abbrev pub invariant-loop : goal.invariant-loop
invariant-loop l = l.slots.items ≡ l.fn.slots.items ++ replicate l.counter (vacant answer_room)
