-- The card and the text that a letter is left with, and why they are refused.
use Rattle.std.specs.Prelude.{◌≡◌, ℕ, ◌/◌, ◌<ℤ◌, List, length, Option, Some, None, pos, min}
use Rattle.express_words.specs.Seen.{Seen}
use Rattle.express_words.specs.Streams.{Stream}
use Rattle.input_reading.specs.Reading.{GaveAll}
use Rattle.letter_pieces.specs.Reading.{fault_of}
use Rattle.letter_pieces.specs.declared.fault.LetterFault.{LetterFault}
use Rattle.letter_pieces.specs.Sizes.{IsLetterLength}
use Rattle.desk_texts.specs.Days.{number_of}
use Rattle.desk_texts.specs.declared.day.Day.{Day}
use Rattle.desk_sheets.specs.Judging.{IsBadAt, IsEarlier}
use Rattle.desk_sheets.specs.Spelling.{SpellsSheet}
use Rattle.desk_sheets.specs.declared.sheet.Card.{Card}
use Rattle.desk_sheets.specs.declared.sheet.Pair.{Pair}
use Rattle.desk_sheets.specs.declared.sheet.Sheet.TheVariants as sheets
use Rattle.desk_around.specs.Reading.{IsWholePaper}
use Rattle.desk_around.specs.declared.trouble.Trouble.{Trouble}
use Rattle.desk_around.specs.declared.trouble.Trouble.TheVariants as trouble

-- P of the text of a file that was read whole
abbrev pub OfFile : {Q : Type 0} → (Q → Seen) → (List ℕ → Type 0) → Type 0
OfFile papers P = (text : List ℕ) × IsWholePaper papers text × P text

-- ---- what is given

-- a file spells the card
abbrev pub ReadsCard : {Q : Type 0} → (Q → Seen) → Card → Type 0
ReadsCard papers card = OfFile papers (SpellsSheet (sheets.Card card))

-- the text is all of a file where one is named, or else all that the input gave
abbrev pub ReadsText : {Q A : Type 0} → (Q → Seen) → Option A → (from to : Option Stream) → List ℕ → Type 0
ReadsText papers (Some path) from to text = IsWholePaper papers text
ReadsText papers None from to text = GaveAll from to text

-- ---- why it is refused

-- the card takes a letter of that length
abbrev pub FitsCard : Card → (text : List ℕ) → Type 0
FitsCard card text = IsLetterLength (length card.addresses) card.width (length text)

-- the day is over at this moment, in seconds since 1970: of those behind the year 9999 the last day of all
-- stands
abbrev pub IsDayOver : Day → ℕ → Type 0
IsDayOver last seconds = number_of last <ℤ pos (min (seconds / 86400) 2932896)

-- the file is of an earlier version, has a bad line, or is a pair file
abbrev pub RefusesCard : {Q : Type 0} → (Q → Seen) → (path : List ℕ) → Trouble → Type 0
RefusesCard papers path (trouble.Earlier named) = (named.now ≡ path) × OfFile papers IsEarlier
RefusesCard papers path (trouble.BadLine named line) = (named.now ≡ path) × OfFile papers (IsBadAt line)
RefusesCard papers path (trouble.NoCard named) =
    (named.now ≡ path) × OfFile papers (λ text. (pair : Pair) × SpellsSheet (sheets.Pair pair) text)
RefusesCard papers path (trouble.NoLetter fault) = ⊥
RefusesCard papers path (trouble.Old day) = ⊥
RefusesCard papers path other = Unit {0}

-- the card takes no letter of that length, and the fault says so
pub record RefusesText (card : Card) (text : List ℕ) (fault : LetterFault) : Type 0 where
  pub is : fault ≡ fault_of (length card.addresses) card.width (length text)
  pub unfit : FitsCard card text → ⊥

-- the card's last day is over
pub record HadLastDay (card : Card) (day : Day) : Type 0 where
  pub last : card.until ≡ Some day
  pub seconds : ℕ
  pub over : IsDayOver day seconds

abbrev pub RefusesDay : Card → Trouble → Type 0
RefusesDay card (trouble.Earlier named) = ⊥
RefusesDay card (trouble.BadLine named line) = ⊥
RefusesDay card (trouble.NoCard named) = ⊥
RefusesDay card (trouble.NoLetter fault) = ⊥
RefusesDay card (trouble.Old day) = HadLastDay card day
RefusesDay card other = Unit {0}

-- the card that was read takes no letter of the text's length
pub record GivesNoLetter {Q A : Type 0} (papers : Q → Seen) (file : Option A) (from to : Option Stream)
    (fault : LetterFault) : Type 0 where
  pub card : Card
  pub is_card : ReadsCard papers card
  pub text : List ℕ
  pub is_text : ReadsText papers file from to text
  pub refuses : RefusesText card text fault

-- the last day of the card that was read is over
pub record GivesOldCard {Q : Type 0} (papers : Q → Seen) (day : Day) : Type 0 where
  pub card : Card
  pub is_card : ReadsCard papers card
  pub last : HadLastDay card day

-- what each trouble of a card or a text says of what was read; the others say nothing of it
abbrev pub Refuses : {Q A : Type 0} → (Q → Seen) → (path : List ℕ) → (file : Option A)
    → (from to : Option Stream) → Trouble → Type 0
Refuses papers path file from to (trouble.NoLetter fault) = GivesNoLetter papers file from to fault
Refuses papers path file from to (trouble.Old day) = GivesOldCard papers day
Refuses papers path file from to other = RefusesCard papers path other
