-- The last day of a card.
use Rattle.std.specs.Prelude.{ℕ, Option, None, pos, min, ◌/◌, ◌<ℤ◌}
use Rattle.desk_texts.specs.Days.{number_of}
use Rattle.desk_texts.specs.declared.day.Day.{Day}
use Rattle.desk_texts.specs.declared.sheet.Head.TheVariants.{Card, Pair}
use Rattle.desk_texts.specs.declared.sheet.Head.{Head}
use Rattle.desk_texts.specs.declared.sheet.Sheet.{Sheet}

abbrev pub day_of_head : Head → Option Day
day_of_head (Card h) = h.until
day_of_head (Pair h) = None

abbrev pub last_day : Sheet → Option Day
last_day s = day_of_head s.head

-- the day is over at this moment, in seconds since 1970: of those behind the year 9999 the last day of all stands
abbrev pub IsOver : Day → ℕ → Type 0
IsOver last seconds = number_of last <ℤ pos (min (seconds / 86400) 2932896)
