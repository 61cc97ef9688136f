use Rattle.std.proofs.Common.{◌≡◌, map, drop}
use Rattle.httparse.specs.Spans.{header_bytes}
use Rattle.http_door.specs.Fields.{names_type}
use Rattle.http_door.proofs.fields.names_type.Given as goal

abbrev pub invariant-loop-span : goal.invariant-loop-span
invariant-loop-span l =
    names_type (map (header_bytes l.held) (drop l.span-index l.spans)) ≡ names_type (map (header_bytes l.held) l.spans)
