use Rattle.std.proofs.Common.{sym, ◌∙◌}
use Rattle.schedule_text.proofs.ScheduleLaws.{header_lanes}
use Rattle.schedule_text.proofs.reader.read_text.Goals as goal

pub read_events-requires-clause-some : goal.read_events-requires-clause-some
read_events-requires-clause-some c =
    (header_lanes c.first_line.result.0.now c.in-Some.header (sym c.header_of.ensures ∙ c.in-Some.is)).0

pub read_events-requires-clause-few : goal.read_events-requires-clause-few
read_events-requires-clause-few c =
    (header_lanes c.first_line.result.0.now c.in-Some.header (sym c.header_of.ensures ∙ c.in-Some.is)).1
