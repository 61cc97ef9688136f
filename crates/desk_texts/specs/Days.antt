-- Days of the Gregorian calendar.
use Rattle.std.specs.Prelude.{◌≡◌, ℕ, ◌+◌, ◌-◌, ◌*◌, ◌≤◌, ◌&&◌, ◌||◌, ◌==◌, nat_lt, nat_le, Bool}
use Rattle.std.specs.Prelude.{if◌then◌else◌, List, [], ◌∷◌, ◌++◌, length, replicate, codes}
use Rattle.std.specs.Prelude.{Option, Some, None, ℤ, pos}
use Rattle.std.specs.Char.{is_ascii_digit}
use Rattle.std.specs.Fmt.{decimal}
use Rattle.jiff_core.specs.Calendar.{days_in_month, days_from_civil}
use Rattle.express_texts.specs.LineFields.{◌>>=◌, after}
use Rattle.desk_texts.specs.declared.day.Day.{Day}

-- ---- the calendar

-- the calendar has the day, and its year is at most 9999
pub record IsDay (d : Day) : Type 0 where
  pub year : d.year ≤ 9999
  pub first_month : 1 ≤ d.month
  pub last_month : d.month ≤ 12
  pub first : 1 ≤ d.day
  pub last : d.day ≤ days_in_month (pos d.year) d.month

abbrev pub is_day : Day → Bool
is_day d =
    nat_le d.year 9999 && (nat_le 1 d.month && (nat_le d.month 12
    && (nat_le 1 d.day && nat_le d.day (days_in_month (pos d.year) d.month))))

-- how many days it lies behind 1 January 1970, year by year and month by month; negative before that
abbrev pub number_of : Day → ℤ
number_of d = days_from_civil (pos d.year) d.month d.day

-- in the order of years, months and days
abbrev pub is_after : Day → Day → Bool
is_after d e =
    nat_lt e.year d.year || ((d.year == e.year)
    && (nat_lt e.month d.month || ((d.month == e.month) && nat_lt e.day d.day)))

abbrev pub is_leap_day : Day → Bool
is_leap_day d = (d.month == 2) && (d.day == 29)

-- the same day of the next year, or 28 February for 29 February
pub record IsAYearLater (old new : Day) : Type 0 where
  pub year : new.year ≡ old.year + 1
  pub month : new.month ≡ old.month
  pub day : new.day ≡ (if is_leap_day old then 28 else old.day)

-- ---- its text

-- a number in so many decimal digits, or more where it needs them
abbrev pub zero_filled : ℕ → ℕ → List ℕ
zero_filled width n = replicate (width - length (decimal n)) 48 ++ decimal n

-- YYYY-MM-DD
abbrev pub day_text : Day → List ℕ
day_text d =
    zero_filled 4 d.year ++ (codes "-" ++ (zero_filled 2 d.month ++ (codes "-" ++ zero_filled 2 d.day)))

-- the text is that of a day that the calendar has
pub record SpellsDay (d : Day) (text : List ℕ) : Type 0 where
  pub day : IsDay d
  pub text_is : text ≡ day_text d

-- Some has the day that the text spells, and with None it spells none.
abbrev pub JudgesDay : List ℕ → Option Day → Type 0
JudgesDay text (Some d) = SpellsDay d text
JudgesDay text None = (d : Day) → SpellsDay d text → ⊥

-- ---- the same as a function from the text

-- the number of two digits in front, and what follows them
unfoldable pub two_digits : List ℕ → Option (ℕ × List ℕ)
two_digits [] = None
two_digits (a ∷ []) = None
two_digits (a ∷ b ∷ rest) =
    if is_ascii_digit a && is_ascii_digit b then Some (10 * (a - 48) + (b - 48), rest) else None

-- the day, where the calendar has it and nothing follows
abbrev pub last_day : Day → List ℕ → Option Day
last_day d [] = if is_day d then Some d else None
last_day d (b ∷ rest) = None

unfoldable pub day_of : List ℕ → Option Day
day_of text = do
  century ← two_digits text
  year ← two_digits century.1
  rest ← after (codes "-") year.1
  month ← two_digits rest
  rest ← after (codes "-") month.1
  day ← two_digits rest
  last_day (record { year = 100 * century.0 + year.0; month = month.0; day = day.0 }) day.1
