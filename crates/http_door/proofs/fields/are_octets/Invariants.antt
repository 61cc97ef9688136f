use Rattle.std.proofs.Common.{◌≡◌, map, drop}
use Rattle.httparse.specs.Spans.{header_bytes}
use Rattle.http_door.specs.Fields.{are_octets}
use Rattle.http_door.proofs.fields.are_octets.Given as goal

abbrev pub invariant-loop-span : goal.invariant-loop-span
invariant-loop-span l =
    are_octets (map (header_bytes l.held) (drop l.span-index l.spans)) ≡ are_octets (map (header_bytes l.held) l.spans)
