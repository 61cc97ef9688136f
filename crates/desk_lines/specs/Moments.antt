-- A moment in words.
use Rattle.std.specs.Prelude.{◌≡◌, ℕ, ◌/◌, ◌%◌, List, ◌++◌, pos, min, codes}
use Rattle.desk_texts.specs.declared.day.Day.{Day}
use Rattle.desk_texts.specs.Days.{IsDay, day_text, number_of, zero_filled}

-- 21:04 UTC
unfoldable pub hour_text : (hour minute : ℕ) → List ℕ
hour_text hour minute = codes " " ++ (zero_filled 2 hour ++ (codes ":" ++ (zero_filled 2 minute ++ codes " UTC")))

-- The text is a moment's, in seconds since 1970 UTC: its day, and the hour and minute of the day. Behind the
-- year 9999 the day is that year's last.
pub record IsMoment (seconds : ℕ) (text : List ℕ) : Type 0 where
  pub day : Day
  pub is_day : IsDay day
  pub number : number_of day ≡ pos (min (seconds / 86400) 2932896)
  pub is : text ≡ day_text day ++ hour_text (seconds % 86400 / 3600) (seconds % 3600 / 60)
