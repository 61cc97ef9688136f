-- What is printed of what boxes held.
use Rattle.std.specs.Prelude.{Option, ◌≡◌, ℕ, Bool, true, false, List, [], ◌∷◌, ◌++◌, drop, length, map, codes}
use Rattle.std.specs.Fmt.{decimal}
use Rattle.std.specs.Str.{IsUtf8}
use denote.Bor.{Bor}
use Rattle.desk_entries.specs.declared.entry.Entry.{Entry}
use Rattle.desk_entries.specs.declared.entry.Held.{Held}
use Rattle.desk_entries.specs.declared.entry.Held.TheVariants as held
use Rattle.desk_entries.specs.declared.entry.Reading.{Reading}
use Rattle.desk_entries.specs.Desks.{last_day, name_of}
use Rattle.desk_texts.specs.declared.day.Day.{Day}
use Rattle.desk_entries.specs.Letters.{letters_of, shown_of}
use Rattle.desk_ledger.specs.declared.pair.Pair.{Pair}
use Rattle.desk_ledger.specs.Cards.{IsCardOf, card_addresses}
use Rattle.desk_ledger.specs.Ledgers.{LedgerState}
use Rattle.desk_letters.specs.Screen.{shown_text}
use Rattle.desk_texts.specs.declared.sheet.Sheet.{Sheet}
use Rattle.desk_texts.specs.Printing.{printed}
use Rattle.desk_run.specs.Printing.{met_line}

-- ---- one box

-- the line above a letter
unfoldable pub head_line : List ℕ → List ℕ → List ℕ
head_line name moment = codes "letter from box " ++ name ++ codes ", read " ++ moment ++ codes "\n"

-- what stands for a letter of so many bytes that is no text
unfoldable pub no_text : ℕ → List ℕ
no_text count =
    codes "(these " ++ decimal count
    ++ codes " bytes are no text: letters --out FOLDER writes them to a file)\n\n"

-- a letter's text for a screen, and a line behind it
unfoldable pub text_line : List ℕ → List ℕ
text_line text = shown_text text ++ codes "\n\n"

-- what is printed of a letter's bytes: the text for a screen, where they are one
pub record ShowsText (text body : List ℕ) : Type 0 where
  pub shown : IsUtf8 text → body ≡ text_line text
  pub counted : (IsUtf8 text → ⊥) → body ≡ no_text (length text)

-- what is printed of a letter from a box of this name
pub record ShowsLetter (name text printed : List ℕ) : Type 0 where
  pub moment : List ℕ
  pub body : List ℕ
  pub is : printed ≡ head_line name moment ++ body
  pub shows : ShowsText text body

-- This is printed of what a box of this name held.
abbrev pub Shows : List ℕ → Held → List ℕ → Type 0
Shows name held.Nothing printed = printed ≡ []
Shows name held.Met printed = printed ≡ met_line name ++ codes "\n"
Shows name (held.Letter id text) printed = ShowsLetter name text printed

abbrev pub holds_met : Held → Bool
holds_met held.Nothing = false
holds_met held.Met = true
holds_met (held.Letter id text) = false

abbrev pub is_met : Reading → Bool
is_met r = holds_met r.held

-- what is printed of a box that was read, under its name
abbrev pub ShowsReading : List Entry → Reading → List ℕ → Type 0
ShowsReading entries r printed = Shows (name_of entries r.registered) r.held printed

-- ---- several boxes

-- One text of each reading stands behind another.
pub data Each (One : Reading → List ℕ → Type 0) : List Reading → List ℕ → Type 0 where
  none : Each One [] []
  then : (r : Reading) (readings : List Reading) (one more : List ℕ) → One r one
      → Each One readings more → Each One (r ∷ readings) (one ++ more)

-- These are printed one behind another, each under the name of its box.
abbrev pub ShowsEach : List Entry → List Reading → List ℕ → Type 0
ShowsEach entries = Each (ShowsReading entries)

-- what was read, of readings that are lent
abbrev pub lent : List (Bor Reading) → List Reading
lent readings = map (λ r. r.now) readings

-- the letters that weren't shown
abbrev pub new_letters : List Entry → List Reading
new_letters entries = drop (shown_of entries) (letters_of entries)

-- ---- a card

-- the text of the card of a name, with its last day
pub record IsCardText (pair : Pair) (addresses : List ℕ) (until : Option Day) (text : List ℕ) : Type 0 where
  pub card : Sheet
  pub is_of : IsCardOf pair addresses until card
  pub is : text ≡ printed card

-- that of a ledger's name, with its live boxes
abbrev pub IsCardFor : {D : Type 0} → LedgerState D → (name text : List ℕ) → Type 0
IsCardFor l name = IsCardText l.pair (card_addresses l.entries name) (last_day l.entries name)
