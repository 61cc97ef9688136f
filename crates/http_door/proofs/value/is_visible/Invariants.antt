use Rattle.std.proofs.Common.{◌≡◌, drop}
use Rattle.http_door.specs.Values.{is_visible}
use Rattle.http_door.proofs.value.is_visible.Given as goal

abbrev pub invariant-loop-byte : goal.invariant-loop-byte
invariant-loop-byte l = is_visible (drop l.byte-index l.bytes) ≡ is_visible l.bytes
