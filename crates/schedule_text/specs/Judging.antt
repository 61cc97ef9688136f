-- What the answer of `read` says of the text.
use Rattle.std.specs.Prelude.{ℕ, List, Result, Ok, Err}
use Rattle.schedule_text.specs.declared.schedule.Schedule.{Schedule}
use Rattle.schedule_text.specs.declared.fault.ReadFault.{ReadFault}
use Rattle.schedule_text.specs.declared.fault.ReadFault.TheVariants.{BadLine, NoMemory}
use Rattle.schedule_text.specs.Spelling.{SpellsSchedule, IsFirstBadLine}

-- Ok has the schedule that the text spells, a bad line is the first, and want of memory says nothing.
abbrev pub Judges : List ℕ → Result Schedule ReadFault → Type 0
Judges text (Ok schedule) = SpellsSchedule schedule text
Judges text (Err (BadLine n)) = IsFirstBadLine n text
Judges text (Err NoMemory) = Unit {0}
