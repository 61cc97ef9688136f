use Rattle.std.proofs.Common.{◌≡◌, ◌≤◌, [], length}
use Rattle.schedule_text.specs.Grammar.{events_from}
use Rattle.express_texts.specs.Lines.{lines_of}
use Rattle.schedule_text.specs.Tables.{IsTableOf}
use Rattle.schedule_text.specs.declared.schedule.TheConstants.{MOST_EVENTS}
use Rattle.schedule_text.proofs.reader.read_events.Given as goal

abbrev pub invariant-loop-rest : goal.invariant-loop-rest
invariant-loop-rest l = record {
  same : events_from l.settings l.events.items (lines_of l.rest) ≡ events_from l.settings []
      (lines_of l.text);
  few : length l.events.items ≤ MOST_EVENTS;
  table : IsTableOf l.lanes l.events.items;
}

abbrev pub decreases-loop-rest : goal.decreases-loop-rest
decreases-loop-rest l = length l.rest
