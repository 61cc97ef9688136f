-- What a reader's answer says of the text.
use Rattle.std.specs.Prelude.{◌≡◌, ℕ, true, List, Result, Ok, Err}
use Rattle.desk_texts.specs.Lines.{lines_in, from_first}
use Rattle.desk_sheets.specs.declared.fault.SheetFault.{SheetFault}
use Rattle.desk_sheets.specs.declared.fault.SheetFault.TheVariants as faults
use Rattle.desk_sheets.specs.declared.sheet.Card.{Card}
use Rattle.desk_sheets.specs.declared.sheet.Pair.{Pair}
use Rattle.desk_sheets.specs.declared.sheet.Sheet.{Sheet}
use Rattle.desk_sheets.specs.declared.sheet.Sheet.TheVariants as sheets
use Rattle.desk_sheets.specs.Earlier.{begins_earlier, first_place}
use Rattle.desk_sheets.specs.Spelling.{SpellsSheet, IsFirstBadLine}

-- The first line in the text that begins a sheet begins one of an earlier version, and none of this one.
pub record IsEarlier (text : List ℕ) : Type 0 where
  pub bad : IsFirstBadLine (first_place (lines_in text)) text
  pub begins : begins_earlier (from_first (lines_in text)) ≡ true

-- Line n is the text's first bad one, and the text has no sheet of an earlier version.
pub record IsBadAt (n : ℕ) (text : List ℕ) : Type 0 where
  pub bad : IsFirstBadLine n text
  pub now : IsEarlier text → ⊥

-- what each fault but one says; want of memory says nothing
abbrev pub Faults : List ℕ → Type 0 → SheetFault → Type 0
Faults text other faults.Earlier = IsEarlier text
Faults text other (faults.Wrong n) = IsBadAt n text
Faults text other faults.OtherKind = other
Faults text other faults.NoMemory = Unit {0}

-- a sheet that the text spells, or a fault
abbrev pub Judges : List ℕ → Result Sheet SheetFault → Type 0
Judges text (Ok sheet) = SpellsSheet sheet text
Judges text (Err fault) = Faults text ⊥ fault

-- a card that it spells; another kind is a pair file that it spells
abbrev pub JudgesCard : List ℕ → Result Card SheetFault → Type 0
JudgesCard text (Ok card) = SpellsSheet (sheets.Card card) text
JudgesCard text (Err fault) = Faults text ((pair : Pair) × SpellsSheet (sheets.Pair pair) text) fault

-- a pair file that it spells; another kind is a card that it spells
abbrev pub JudgesPair : List ℕ → Result Pair SheetFault → Type 0
JudgesPair text (Ok pair) = SpellsSheet (sheets.Pair pair) text
JudgesPair text (Err fault) = Faults text ((card : Card) × SpellsSheet (sheets.Card card) text) fault
