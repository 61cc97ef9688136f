use Rattle.std.proofs.Common.{◌≡◌}
use Rattle.mio_wires.proofs.doorway.Doorway.fetch.Given as goal

abbrev pub invariant-loop : goal.invariant-loop
invariant-loop l = l.self.door ≡ l.fn.self.door
