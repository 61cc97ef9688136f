-- Sheets of earlier versions, which aren't read, and what is told of a text that is no sheet.
use Rattle.std.specs.Prelude.{ℕ, ◌+◌, ◌==◌, ◌&&◌, ◌||◌, if◌then◌else◌, Bool, false, List, [], ◌∷◌, codes}
use Rattle.std.specs.Prelude.{Option, Some, is_some}
use Rattle.express_texts.specs.LineFields.{◌>>=◌, after}
use Rattle.express_texts.specs.Numbers.{number_at}
use Rattle.desk_texts.specs.Lines.{lines_before, from_first}
use Rattle.desk_sheets.specs.declared.fault.SheetFault.{SheetFault}
use Rattle.desk_sheets.specs.declared.fault.SheetFault.TheVariants as faults

-- express card 2 WIDTH FROM TO ADDRESSES, with a space behind, as cards began that named lanes
unfoldable pub behind_lanes : List ℕ → Option (Unit {0})
behind_lanes line = do
  rest ← after (codes "express card 2 ") line
  width ← number_at 32 4096 rest
  rest ← after (codes " ") width.1
  from ← number_at 0 255 rest
  rest ← after (codes " ") from.1
  to ← number_at 0 255 rest
  rest ← after (codes " ") to.1
  addresses ← number_at 1 64 rest
  _ ← after (codes " ") addresses.1
  Some tt

abbrev pub is_earlier : List ℕ → Bool
is_earlier line =
    (is_some (after (codes "express card 1 ") line) || is_some (after (codes "express pair 1 ") line))
    || is_some (behind_lanes line)

-- the first of the lines is one
abbrev pub begins_earlier : List (List ℕ) → Bool
begins_earlier [] = false
begins_earlier (line ∷ lines) = is_earlier line

-- the number of the line that begins a sheet
abbrev pub first_place : List (List ℕ) → ℕ
first_place lines = lines_before lines + 1

-- Where the first bad line is that one, and it begins a sheet of an earlier version, this is told in place
-- of it.
unfoldable pub fault_at : List (List ℕ) → ℕ → SheetFault
fault_at lines n =
    if (n == first_place lines) && begins_earlier (from_first lines) then faults.Earlier else faults.Wrong n
