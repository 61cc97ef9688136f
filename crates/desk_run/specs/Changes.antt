-- How the words of an owner change the ledger.
use Rattle.std.specs.Prelude.{◌≡◌, ◌⊎◌, ◌≤◌, ℕ, List, [], ◌++◌, Option, Some, None, length, is_some}
use Rattle.std.specs.Prelude.{max, true, false, codes}
use Rattle.std.specs.List.{filter}
use denote.Bor.{Bor}
use Rattle.node_journal.specs.Disk.{DiskSeen}
use Rattle.desk_entries.specs.declared.entry.Entry.{Entry}
use Rattle.desk_entries.specs.declared.entry.Entry.TheVariants as entry
use Rattle.desk_entries.specs.Desks.{is_retiring, named}
use Rattle.desk_entries.specs.Forgetting.{kept}
use Rattle.desk_entries.specs.Letters.{letters_of, shown_of, unseen_of, written_of}
use Rattle.desk_ledger.specs.Forgetting.{next_opening}
use Rattle.desk_ledger.specs.Ledgers.{AddsEntry, EntriesOnly, LedgerState}
use Rattle.desk_ledger.specs.Tasks.{fault_at, is_live}
use Rattle.desk_outside.specs.Calls.{Adds, FolderCall, Opened, Placed, Removed}
use Rattle.desk_outside.specs.declared.folder.DeskFile.{DeskFile}
use Rattle.desk_outside.specs.declared.folder.DeskFile.TheVariants.{Ledger, NextLedger}
use Rattle.desk_texts.specs.declared.day.Day.{Day}
use Rattle.desk_run.specs.Shown.{IsCardFor, ShowsEach, new_letters}

-- ---- names

-- Nothing speaks against the name, and so many addresses have it now, and wait for their boxes; its card has this last
-- day.
pub record Names {D : Type 0} (name : List ℕ) (count : ℕ) (day : Day) (old new : LedgerState D) : Type 0 where
  pub addresses : List ℕ
  pub many : length addresses ≡ count
  pub free : fault_at old name addresses ≡ None
  pub noted : AddsEntry (entry.Named (record { name = name; addresses = addresses; until = Some day })) old new
  pub only : EntriesOnly old new

-- The name is used already, and nothing changes.
pub record IsUsed {D : Type 0} (name : List ℕ) (old new : LedgerState D) : Type 0 where
  pub used : is_some (named old.entries name) ≡ true
  pub same : new ≡ old

abbrev pub WantsBoxes : {D : Type 0} → List ℕ → ℕ → Day → (old new : LedgerState D) → Type 0
WantsBoxes name count day old new = IsUsed name old new ⊎ Names name count day old new

-- The boxes of the name are to be retired now, where they weren't before.
pub record WantsRetired {D : Type 0} (name : List ℕ) (old new : LedgerState D) : Type 0 where
  pub retiring : is_retiring new.entries name ≡ true
  pub noted : (new.entries ≡ old.entries) ⊎ AddsEntry (entry.Retiring name) old new
  pub only : EntriesOnly old new

-- ---- letters

-- All letters are noted as shown, where some weren't yet, and nothing else changes.
pub record NotesShown {D : Type 0} (old new : LedgerState D) : Type 0 where
  pub shown : length (letters_of old.entries) ≤ shown_of new.entries
  pub noted : (new.entries ≡ old.entries)
      ⊎ AddsEntry (entry.Shown (length (letters_of old.entries))) old new
  pub only : EntriesOnly old new

-- So many letters are noted as written and as shown, where not so many were yet, and no more; nothing else changes.
pub record NotesWritten {D : Type 0} (count : ℕ) (old new : LedgerState D) : Type 0 where
  pub written : written_of new.entries ≡ max count (written_of old.entries)
  pub shown : shown_of new.entries ≡ max count (shown_of old.entries)
  pub letters : letters_of new.entries ≡ letters_of old.entries
  pub only : EntriesOnly old new

-- All letters are noted as shown, with a folder as written and shown.
abbrev pub NotesTold : {D : Type 0} → Option (Bor (List ℕ)) → (old new : LedgerState D) → Type 0
NotesTold None old new = NotesShown old new
NotesTold (Some folder) old new = NotesWritten (length (letters_of old.entries)) old new

-- ---- a ledger in the place of another

-- lane, seed, next serial, pair, live boxes and names are those of the old one, and nothing is under way
pub record FollowsLedger {D E : Type 0} (old : LedgerState D) (next : LedgerState E) : Type 0 where
  pub opening : next.client.opening ≡ next_opening old.client
  pub serial : next.client.core.client.serial ≡ old.client.core.client.serial
  pub boxes : next.client.core.boxes ≡ filter (is_live old.entries) old.client.core.boxes
  pub entries : next.entries ≡ kept old.entries
  pub pair : next.pair ≡ old.pair
  pub idle : (next.client.core.client.current ≡ None) × (next.client.core.untold ≡ [])

-- What was left in this file is removed, and the file is made anew.
pub record MakesFile {D : Type 0} (file : DeskFile) (disk : D) (old new : Option (List (FolderCall D)))
    : Type 0 where
  pub mid : Option (List (FolderCall D))
  pub removed : Adds old mid (Removed file false)
  pub opened : Adds mid new (Opened file (Some disk))

-- A ledger that follows is made on a new file, which is put in the place of the old one.
pub record Renews {D : Type 0} (shows : D → DiskSeen) (ledger : LedgerState D)
    (old new : Option (List (FolderCall D))) : Type 0 where
  pub disk : D
  pub mid : Option (List (FolderCall D))
  pub made : MakesFile NextLedger disk old mid
  pub empty : (c : List ℕ) → (shows disk).reads c → c ≡ []
  pub seen : unseen_of ledger.entries ≡ 0
  pub next : LedgerState D
  pub follows : FollowsLedger ledger next
  pub placed : Adds mid new (Placed NextLedger Ledger false)

-- ---- what is printed

abbrev pub advice : List ℕ
advice = codes "\nThis is the card of these boxes: hand out its lines as they stand.\n"

-- the card of the name's live boxes, and what it is for
pub record TellsCard {D : Type 0} (l : LedgerState D) (name text : List ℕ) : Type 0 where
  pub card : List ℕ
  pub is_card : IsCardFor l name card
  pub is : text ≡ card ++ advice

unfoldable pub retired_line : List ℕ → List ℕ
retired_line name = codes "the boxes of " ++ name ++ codes " are retired: its cards are of no use any more\n"

abbrev pub forgotten_line : List ℕ
forgotten_line = codes "the letters are forgotten; boxes and cards stay as they are\n"

-- the new letters, and a line behind them
pub record TellsNewAnd (line : List ℕ) (entries : List Entry) (text : List ℕ) : Type 0 where
  pub letters : List ℕ
  pub shown : ShowsEach entries (new_letters entries) letters
  pub is : text ≡ letters ++ line
