use Rattle.std.proofs.Common.{◌≡◌, ◌++◌, drop}
use Rattle.std.specs.Prelude.{flat_map, string_bytes}
use Rattle.schedule_text.specs.Printing.{event_line}
use Rattle.schedule_text.proofs.printing.add_events.Given as goal

abbrev pub invariant-loop-event : goal.invariant-loop-event
invariant-loop-event l =
    string_bytes l.text ++ flat_map event_line (drop l.event-index l.events) ≡ string_bytes l.fn.text
    ++ flat_map event_line l.events
