-- How news are told, and what was told where it stopped in the middle.
use Rattle.std.specs.Prelude.{◌≡◌, ◌⊎◌, ℕ, ◌==◌, not, List, [], ◌∷◌, ◌++◌, length, Option}
use Rattle.std.specs.List.{list_any}
use Rattle.express_words.specs.Streams.{Took}
use Rattle.desk_lines.specs.Letters.{ShowsLetter, TellsFile, met_line}
use Rattle.told_letters.specs.Mail.{Letter}
use Rattle.kept_ledger.specs.declared.entry.Handling.{Handling}
use Rattle.kept_ledger.specs.declared.entry.Handling.TheVariants.{Shown, Written}
use Rattle.kept_ledger.specs.declared.machine.KeptLedger.{KeptLedger}
use Rattle.kept_ledger.specs.Ledgers.{LedgerState}
use Rattle.kept_machine.specs.Kept.{KeptState}
use Rattle.owner_mail.specs.declared.showing.NewsTold.{NewsTold}
use Rattle.owner_mail.specs.Mail.{AreMails, NamedMail, is_met}
use Rattle.owner_mail.specs.News.{Arrived, Item, Unopened, all_news, marks_after}

abbrev pub state_of : {D : Type 0} → KeptState KeptLedger D → LedgerState
state_of kept = kept.machine.ledger.state

-- ---- one text

-- how letters are told: on the screen, or by files in a folder, which have the desk's tag
pub data Way : Type 0 where
  Screen : Way
  Files : (folder : List ℕ) (tag : ℕ) → Way

abbrev pub handling_by : Way → Handling
handling_by Screen = Shown
handling_by (Files folder tag) = Written

abbrev pub TellsLetter : Way → NamedMail → Letter → List ℕ → Type 0
TellsLetter Screen m l text = ShowsLetter m.name m.seconds l.text text
TellsLetter (Files folder tag) m l text =
    TellsFile folder m.name m.seconds l.heading.letter.0 l.heading.parts tag text

abbrev pub TellsItem : Way → Item → List ℕ → Type 0
TellsItem way (Arrived m l) text = TellsLetter way m l text
TellsItem way (Unopened m) text = text ≡ met_line m.name m.unopened

-- nothing, or a first part of a text of this form
abbrev pub IsFirstOf : (List ℕ → Type 0) → List ℕ → Type 0
IsFirstOf Form begun = (begun ≡ []) ⊎ ((rest : List ℕ) × Form (begun ++ rest))

-- from old to new an output took that
abbrev pub PrintsFirst : (List ℕ → Type 0) → Option (List ℕ) → Option (List ℕ) → Type 0
PrintsFirst Form old new = (begun : List ℕ) × IsFirstOf Form begun × Took old new begun

-- ---- one text behind another

pub data Each {A : Type 0} (One : A → List ℕ → Type 0) : List A → List ℕ → Type 0 where
  none : Each One [] []
  then : (x : A) (xs : List A) (one more : List ℕ) → One x one → Each One xs more
      → Each One (x ∷ xs) (one ++ more)

-- All of these were told, each once and in order, and each letter is noted. Else the ledger is as it was.
pub record TellsAll (way : Way) (items : List Item) (s now : LedgerState) (old new : Option (List ℕ))
    : Type 0 where
  pub text : List ℕ
  pub each : Each (TellsItem way) items text
  pub took : Took old new text
  pub noted : now ≡ record s { marks = marks_after (handling_by way) items s.marks }

-- what is told of the first of these
abbrev pub TellsNext : Way → List Item → List ℕ → Type 0
TellsNext way [] text = ⊥
TellsNext way (one ∷ rest) text = TellsItem way one text

-- The first of these were told, and they alone are noted. Of the next one a first part was told, or nothing.
pub record TellsSome (way : Way) (items : List Item) (s now : LedgerState) (old new : Option (List ℕ))
    : Type 0 where
  pub done : List Item
  pub rest : List Item
  pub split : items ≡ done ++ rest
  pub front : List ℕ
  pub each : Each (TellsItem way) done front
  pub noted : now ≡ record s { marks = marks_after (handling_by way) done s.marks }
  pub begun : List ℕ
  pub next : IsFirstOf (TellsNext way rest) begun
  pub took : Took old new (front ++ begun)

-- ---- all news

-- The news of all names were told. Whether there were any, and whether letters met, is said.
pub record TellsNew (way : Way) (told : NewsTold) (s now : LedgerState) (old new : Option (List ℕ))
    : Type 0 where
  pub mails : List NamedMail
  pub are : AreMails s mails
  pub tells : TellsAll way (all_news (handling_by way) s.marks mails) s now old new
  pub any : told.any ≡ not (length (all_news (handling_by way) s.marks mails) == 0)
  pub met : told.met ≡ list_any is_met mails

-- the first of them were
pub record TellsFirstNew (way : Way) (s now : LedgerState) (old new : Option (List ℕ)) : Type 0 where
  pub mails : List NamedMail
  pub are : AreMails s mails
  pub tells : TellsSome way (all_news (handling_by way) s.marks mails) s now old new

-- or nothing was told, and nothing noted
abbrev pub TellsFirst : Way → (s now : LedgerState) → (old new : Option (List ℕ)) → Type 0
TellsFirst way s now old new = ((now ≡ s) × (new ≡ old)) ⊎ TellsFirstNew way s now old new

-- ---- letters that met

-- a text with a line in it that tells of readings that nothing opens
pub record TellsMet (text : List ℕ) : Type 0 where
  pub name : List ℕ
  pub count : ℕ
  pub before : List ℕ
  pub behind : List ℕ
  pub is : text ≡ before ++ (met_line name count ++ behind)
