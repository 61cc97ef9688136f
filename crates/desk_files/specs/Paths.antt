-- The names of what stands in a desk's folder, as text, and their paths.
use Rattle.std.specs.Prelude.{◌≡◌, ℕ, ◌+◌, ◌<◌, ◌==◌, List, [], ◌++◌, map, nat_lt, if◌then◌else◌}
use Rattle.std.specs.Prelude.{codes, decimal}
use Rattle.std.specs.List.{range_with_len}
use Rattle.desk_outside.specs.declared.folder.DeskFile.{DeskFile}
use Rattle.desk_outside.specs.declared.folder.DeskFile.TheVariants.{Ledger, NextLedger, Outbox, NextOutbox}
use Rattle.desk_outside.specs.declared.folder.TheConstants.{MOST_LETTERS}

-- the path of what has this name in a folder
abbrev pub path_in : (folder name : List ℕ) → List ℕ
path_in folder name = folder ++ codes "/" ++ name

-- the name of a letter's file at a place that is counted from 0: outbox, outbox-2, outbox-3, ..
abbrev pub letter_name : ℕ → List ℕ
letter_name number = if number == 0 then codes "outbox" else codes "outbox-" ++ decimal (number + 1)

-- The name at a letter's place, and where there is no such place the folder's own, by which no file is found.
abbrev pub name_at : ℕ → (name : List ℕ) → List ℕ
name_at number name = if nat_lt number MOST_LETTERS then name else codes "."

-- The name of a file, which ends with .next where it isn't in place yet.
abbrev pub file_name : DeskFile → List ℕ
file_name Ledger = codes "ledger"
file_name NextLedger = codes "ledger.next"
file_name (Outbox slot) = name_at slot.number (letter_name slot.number)
file_name (NextOutbox slot) = name_at slot.number (letter_name slot.number ++ codes ".next")

-- A file of its own: its letter's place is one of those that there are.
abbrev pub IsOfItsOwn : DeskFile → Type 0
IsOfItsOwn Ledger = Unit {0}
IsOfItsOwn NextLedger = Unit {0}
IsOfItsOwn (Outbox slot) = slot.number < MOST_LETTERS
IsOfItsOwn (NextOutbox slot) = slot.number < MOST_LETTERS

-- no other file of the folder has this path
abbrev pub IsPathOfOne : DeskFile → (folder path : List ℕ) → Type 0
IsPathOfOne file folder path = IsOfItsOwn file → (other : DeskFile) → IsOfItsOwn other
    → path_in folder (file_name other) ≡ path → other ≡ file

-- The file in whose place another may be put: the ledger's, or the letter's at the same place.
abbrev pub place_of : DeskFile → DeskFile
place_of Ledger = Ledger
place_of NextLedger = Ledger
place_of (Outbox slot) = Outbox slot
place_of (NextOutbox slot) = Outbox slot

-- the path of a letter's file whose name ends so, and those at all places
abbrev pub letter_path : (folder ending : List ℕ) → ℕ → List ℕ
letter_path folder ending number = path_in folder (letter_name number ++ ending)

abbrev pub letter_paths : (folder ending : List ℕ) → List (List ℕ)
letter_paths folder ending = map (letter_path folder ending) (range_with_len 0 MOST_LETTERS)

-- these are the paths of a folder's files, and itself is one of the folder's own
pub record ArePaths (folder ledger next_ledger itself : List ℕ) (outboxes next_outboxes : List (List ℕ))
    : Type 0 where
  pub ledger_is : ledger ≡ path_in folder (file_name Ledger)
  pub next_ledger_is : next_ledger ≡ path_in folder (file_name NextLedger)
  pub itself_is : itself ≡ path_in folder (codes ".")
  pub outboxes_are : outboxes ≡ letter_paths folder []
  pub next_outboxes_are : next_outboxes ≡ letter_paths folder (codes ".next")
