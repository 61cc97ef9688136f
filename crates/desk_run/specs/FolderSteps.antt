-- What a run does to the desk's folder: one step after another, and nothing else.
use Rattle.std.specs.Prelude.{◌≡◌, ◌⊎◌, ℕ, Bool, List, [], ◌∷◌, Option}
use Rattle.express_words.specs.Seen.{Seen}
use Rattle.node_journal.specs.Disk.{DiskSeen}
use Rattle.desk_entries.specs.declared.entry.Entry.TheVariants as entry
use Rattle.desk_ledger.specs.Ledgers.{LedgerState}
use Rattle.desk_outbox.specs.Outboxes.{OutboxState}
use Rattle.desk_outside.specs.Calls.{Adds, FolderCall, Held, Looked, Opened, Placed, Removed, Adopted}
use Rattle.desk_outside.specs.declared.folder.DeskFile.{DeskFile}
use Rattle.desk_outside.specs.declared.folder.DeskFile.TheVariants.{Ledger, NextLedger, NextOutbox, Outbox}
use Rattle.desk_outside.specs.declared.folder.Slot.{Slot}
use Rattle.desk_texts.specs.declared.sheet.Sheet.{Sheet}
use Rattle.desk_tries.specs.declared.sending.LetterEnd.{LetterEnd}
use Rattle.desk_run.specs.declared.finding.Found.{Found}
use Rattle.desk_run.specs.Adopting.{FollowsAbove}
use Rattle.desk_run.specs.Changes.{FollowsLedger}
use Rattle.desk_run.specs.Finds.{HasFile}
use Rattle.desk_run.specs.Tries.{ComesToEnd, IsFirstTry, Journey, TriesAgain}

-- a file that isn't in its place yet
abbrev pub IsNext : DeskFile → Type 0
IsNext NextLedger = Unit {0}
IsNext (NextOutbox slot) = Unit {0}
IsNext Ledger = ⊥
IsNext (Outbox slot) = ⊥

-- a call by which nothing goes that is in its place
abbrev pub IsGentle : {D : Type 0} → FolderCall D → Type 0
IsGentle (Held hold) = Unit {0}
IsGentle (Looked file there) = Unit {0}
IsGentle (Opened file disk) = Unit {0}
IsGentle (Adopted failed) = Unit {0}
IsGentle (Removed file failed) = IsNext file
IsGentle (Placed next file failed) = ⊥

-- a ledger that may be put in place: a new desk's, or one that follows another
abbrev pub IsNextLedger : {D : Type 0} → LedgerState D → Type 0
IsNextLedger {D} next = ((text : List ℕ) × (next.entries ≡ entry.Pair text ∷ []))
    ⊎ (((old : LedgerState D) × FollowsLedger old next) ⊎ ((old : LedgerState D) × (number : ℕ) × FollowsAbove number old next))

-- a try of a letter that may be: a first one, or one that follows another
abbrev pub IsNextTry : {D : Type 0} → (D → DiskSeen) → OutboxState D → Type 0
IsNextTry {D} shows next = ((card : Sheet) × (text : List ℕ) × IsFirstTry shows card text next)
    ⊎ ((old : OutboxState D) × TriesAgain shows old next)

-- the letter at this place has just come to its end
pub record HasEnded {D : Type 0} (shows : D → DiskSeen) (counts : D → Seen) (slot : Slot)
    (files : Option (List (FolderCall D))) : Type 0 where
  pub start : OutboxState D
  pub end : LetterEnd
  pub old : Journey D
  pub new : Journey D
  pub comes : ComesToEnd shows counts slot start end old new
  pub here : new.files ≡ files

-- what stands there has just been looked at, to be given up
pub record WasLookedAt {D : Type 0} (shows : D → DiskSeen) (slot : Slot) (files : Option (List (FolderCall D)))
    : Type 0 where
  pub before : Option (List (FolderCall D))
  pub found : Found D
  pub looked : HasFile shows slot before files found

abbrev pub IsOver : {D : Type 0} → (D → DiskSeen) → (D → Seen) → Slot → Option (List (FolderCall D)) → Type 0
IsOver shows counts slot files = HasEnded shows counts slot files ⊎ WasLookedAt shows slot files

-- Gentle calls; a ledger that is put in place of another; a try that is put in the place of its letter; and a letter's
-- file that is removed once the letter has come to its end, or is given up. Each such call may fail.
pub data FolderSteps {D : Type 0} (shows : D → DiskSeen) (counts : D → Seen) (before : Option (List (FolderCall D)))
    : Option (List (FolderCall D)) → Type 0 where
  still : FolderSteps shows counts before before
  gentle : (call : FolderCall D) (mid now : Option (List (FolderCall D))) → FolderSteps shows counts before mid
      → IsGentle call → Adds mid now call → FolderSteps shows counts before now
  ledger : (next : LedgerState D) (failed : Bool) (mid now : Option (List (FolderCall D)))
      → FolderSteps shows counts before mid → IsNextLedger next → Adds mid now (Placed NextLedger Ledger failed)
      → FolderSteps shows counts before now
  letter : (slot : Slot) (next : OutboxState D) (failed : Bool) (mid now : Option (List (FolderCall D)))
      → FolderSteps shows counts before mid → IsNextTry shows next
      → Adds mid now (Placed (NextOutbox slot) (Outbox slot) failed) → FolderSteps shows counts before now
  over : (slot : Slot) (failed : Bool) (mid now : Option (List (FolderCall D))) → FolderSteps shows counts before mid
      → IsOver shows counts slot mid → Adds mid now (Removed (Outbox slot) failed) → FolderSteps shows counts before now

-- The same behind whatever was done so before.
abbrev pub FolderStepsOn : {D : Type 0} → (D → DiskSeen) → (D → Seen) → (before now : Option (List (FolderCall D))) → Type 0
FolderStepsOn shows counts before now = (start : Option (List (FolderCall _))) → FolderSteps shows counts start before
    → FolderSteps shows counts start now
