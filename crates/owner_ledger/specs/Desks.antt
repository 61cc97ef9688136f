-- What an owner wants of a desk, and what makes a desk of a pair.
use Rattle.std.specs.Prelude.{◌≡◌, ◌⊎◌, ℕ, ◌≤◌, ◌<◌, true, false, max, List, Option, Some, None, codes}
use Rattle.std.specs.Prelude.{is_some, is_none}
use denote.Bor.{Bor}
use Rattle.express_words.specs.Seen.{Seen}
use Rattle.express_words.specs.Streams.{Took}
use Rattle.node_journal.specs.Disk.{DiskSeen}
use Rattle.desk_outside.specs.Calls.{Adds, FolderCall, Looked}
use Rattle.desk_outside.specs.declared.folder.DeskFile.TheVariants.{Ledger}
use Rattle.kept_machine.specs.Kept.{KeptState}
use Rattle.desk_sheets.specs.Spelling.{SpellsSheet}
use Rattle.desk_sheets.specs.declared.sheet.Pair.{Pair}
use Rattle.desk_sheets.specs.declared.sheet.Sheet.TheVariants as sheets
use Rattle.kept_ledger.specs.declared.fault.NameFault.{NameFault}
use Rattle.kept_ledger.specs.declared.follow.Keeping.TheVariants.{All, WithoutLetters}
use Rattle.kept_ledger.specs.declared.machine.KeptLedger.{KeptLedger}
use Rattle.kept_ledger.specs.Follow.{next_serial}
use Rattle.kept_ledger.specs.Ledgers.{LedgerState, opened_ledger, step_of}
use Rattle.kept_ledger.specs.Notes.{Named, Wanted}
use Rattle.kept_ledger.specs.Standings.{named_boxes}
use Rattle.kept_ledger.specs.Tasks.{name_fault}
use Rattle.desk_around.specs.Reading.{IsWholePaper}
use Rattle.desk_around.specs.Scenes.{Scene}
use Rattle.desk_around.specs.declared.ending.WordEnd.{WordEnd}
use Rattle.desk_around.specs.declared.ending.WordEnd.TheVariants.{Done}
use Rattle.desk_around.specs.declared.trouble.Trouble.{Trouble}
use Rattle.desk_around.specs.declared.trouble.Trouble.TheVariants as trouble
use Rattle.owner_ledger.specs.Checks.{ChecksPair}
use Rattle.owner_ledger.specs.Opens.{Opens}
use Rattle.owner_ledger.specs.Puts.{PutsLedger, follower}

-- ---- names

abbrev pub IsNamed : List ℕ → LedgerState → Type 0
IsNamed name s = is_some (named_boxes s.named name) ≡ true

abbrev pub IsUnnamed : List ℕ → LedgerState → Type 0
IsUnnamed name s = is_some (named_boxes s.named name) ≡ false

-- Nothing speaks against the name, and its note was taken.
pub record WantsBoxes (w : Wanted) (old new : LedgerState) : Type 0 where
  pub free : name_fault old w.name w.addresses ≡ None
  pub noted : new ≡ step_of old (Named w)

-- what is told of a name is what speaks against it
abbrev pub RefusesName : Wanted → LedgerState → Trouble → Type 0
RefusesName w s t = (fault : NameFault) → t ≡ trouble.Name fault
    → name_fault s w.name w.addresses ≡ Some fault

-- ---- a ledger in the place of another

-- One without letters took its place, which goes on at its next serial.
abbrev pub Renews : {D : Type 0} → (D → DiskSeen) → (D → Seen) → LedgerState
    → (old new : Option (List (FolderCall D))) → Type 0
Renews shows counts s old new =
    PutsLedger shows counts (follower WithoutLetters (max (next_serial s) 1) s) old new

-- One with all that it has took its place, which goes on above this serial and its own.
pub record FollowsAbove {D : Type 0} (shows : D → DiskSeen) (counts : D → Seen) (serial : ℕ)
    (s : LedgerState) (old new : Option (List (FolderCall D))) : Type 0 where
  pub first : ℕ
  pub above : serial < first
  pub own : next_serial s ≤ first
  pub puts : PutsLedger shows counts (follower All first s) old new

-- ---- a desk is opened

-- the pair is the one that a whole file spells
pub record IsOfFile {P : Type 0} (papers : P → Seen) (pair : Pair) : Type 0 where
  pub text : List ℕ
  pub whole : IsWholePaper papers text
  pub spells : SpellsSheet (sheets.Pair pair) text

-- There was no ledger, and one was made for the pair, with this seed and first serial.
pub record MakesDesk {D : Type 0} (shows : D → DiskSeen) (counts : D → Seen) (pair : Pair) (seed : List ℕ)
    (first : ℕ) (old new : Option (List (FolderCall D))) : Type 0 where
  pub looked : Option (List (FolderCall D))
  pub none : Adds old looked (Looked Ledger (Some false))
  pub puts : PutsLedger shows counts
      (opened_ledger (record { pair = pair; seed = seed; first_serial = first })) looked new

-- There was a ledger for this pair, and it stays.
pub record KeepsDesk {D : Type 0} (shows : D → DiskSeen) (pair : Pair)
    (old new : Option (List (FolderCall D))) : Type 0 where
  pub kept : KeptState KeptLedger D
  pub opens : Opens shows old new kept
  pub same : kept.machine.ledger.state.pair ≡ pair

abbrev pub HasDesk : {D : Type 0} → (D → DiskSeen) → (D → Seen) → Pair → (seed : List ℕ) → (first : ℕ)
    → (old new : Option (List (FolderCall D))) → Type 0
HasDesk shows counts pair seed first old new =
    MakesDesk shows counts pair seed first old new ⊎ KeepsDesk shows pair old new

abbrev pub open_line : List ℕ
open_line = codes "the desk is open; make boxes and a card with box NAME\n"

-- Both servers were asked and are as the pair file says, a desk for that pair is there, and that is told.
pub record OpensDesk {D P : Type 0} (shows : D → DiskSeen) (counts : D → Seen) (papers : P → Seen)
    (path : Bor (List ℕ)) (seed : List ℕ) (end : WordEnd) (old new : Scene D) : Type 0 where
  pub done : end ≡ Done
  pub pair : Pair
  pub of_file : IsOfFile papers pair
  pub first : ℕ
  pub checks : ChecksPair pair path first old.calls new.calls
  pub desk : HasDesk shows counts pair seed first old.files new.files
  pub said : Took old.written new.written open_line
