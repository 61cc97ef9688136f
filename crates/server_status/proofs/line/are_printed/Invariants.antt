use Rattle.std.proofs.Common.{◌≡◌, drop}
use Rattle.server_status.specs.Printed.{are_printed}
use Rattle.server_status.proofs.line.are_printed.Given as goal

abbrev pub invariant-loop-byte : goal.invariant-loop-byte
invariant-loop-byte l = are_printed (drop l.byte-index l.bytes) ≡ are_printed l.bytes
