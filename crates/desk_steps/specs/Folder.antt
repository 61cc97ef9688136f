-- What a run does to the desk's folder: one step after another, and nothing else.
use Rattle.std.specs.Prelude.{◌≡◌, ◌≤◌, ◌⊎◌, ℕ, Bool, true, false, List, Option, None, Ok}
use Rattle.express_words.specs.Calls.{Call}
use Rattle.express_words.specs.Seen.{Seen}
use Rattle.node_journal.specs.Disk.{DiskSeen}
use Rattle.desk_outside.specs.Calls.{Adds, FolderCall, Held, Looked, Opened, Placed, Removed, Adopted}
use Rattle.desk_outside.specs.declared.folder.DeskFile.{DeskFile}
use Rattle.desk_outside.specs.declared.folder.DeskFile.TheVariants.{Ledger, NextLedger, NextOutbox, Outbox}
use Rattle.desk_outside.specs.declared.folder.Slot.{Slot}
use Rattle.kept_machine.specs.Kept.{KeptState}
use Rattle.letter_copies.specs.declared.copies.LetterEnd.{LetterEnd}
use Rattle.kept_letter.specs.declared.machine.KeptLetter.{KeptLetter}
use Rattle.kept_ledger.specs.declared.follow.Keeping.{Keeping}
use Rattle.kept_ledger.specs.Follow.{kept_notes, next_serial}
use Rattle.kept_ledger.specs.Ledgers.{LedgerState, ledger_after, opened_ledger}
use Rattle.kept_ledger.specs.Notes.{Opening}
use Rattle.kept_letter.specs.Letters.{LetterState, is_text_whole}
use Rattle.kept_letter.specs.Sent.{SentBy}
use Rattle.desk_around.specs.Chains.{GoesOnBy}
use Rattle.desk_steps.specs.declared.finding.Found.{Found}
use Rattle.desk_steps.specs.declared.finding.Found.TheVariants as found
use Rattle.desk_steps.specs.Finding.{HasFile, IsAt}

-- a file that isn't in its place yet
abbrev pub IsNext : DeskFile → Type 0
IsNext NextLedger = Unit {0}
IsNext (NextOutbox slot) = Unit {0}
IsNext Ledger = ⊥
IsNext (Outbox slot) = ⊥

-- a call by which nothing goes that is in its place
abbrev pub IsGentle : {D : Type 0} → FolderCall D → Type 0
IsGentle (Held hold) = Unit {0}
IsGentle (Looked file there) = Unit {0}
IsGentle (Opened file disk) = Unit {0}
IsGentle (Adopted failed) = Unit {0}
IsGentle (Removed file failed) = IsNext file
IsGentle (Placed next file failed) = ⊥

-- ---- letters

-- its text is whole, and no try of it has begun
pub record IsUnsent (s : LetterState) : Type 0 where
  pub whole : is_text_whole s ≡ true
  pub untried : s.tries ≡ 0
  pub silent : s.client ≡ None

-- the letter was put in this place, and that was the folder's last call
pub record WasPlaced {D : Type 0} (slot : Slot) (letter : KeptState KeptLetter D)
    (files : Option (List (FolderCall D))) : Type 0 where
  pub unsent : IsUnsent letter.machine.letter
  pub before : Option (List (FolderCall D))
  pub placed : Adds before files (Placed (NextOutbox slot) (Outbox slot) false)

-- the letter was found in this place, and that was the folder's last call
pub record WasFound {D : Type 0} (shows : D → DiskSeen) (slot : Slot) (letter : KeptState KeptLetter D)
    (files : Option (List (FolderCall D))) : Type 0 where
  pub before : Option (List (FolderCall D))
  pub there : IsAt shows slot before files (found.Letter letter)

abbrev pub IsHere : {D : Type 0} → (D → DiskSeen) → Slot → KeptState KeptLetter D
    → Option (List (FolderCall D)) → Type 0
IsHere shows slot letter files = WasPlaced slot letter files ⊎ WasFound shows slot letter files

-- the letter in this place has just come to its end
pub record HasEnded {D : Type 0} (shows : D → DiskSeen) (counts : D → Seen) (slot : Slot)
    (files : Option (List (FolderCall D))) : Type 0 where
  pub letter : KeptState KeptLetter D
  pub here : IsHere shows slot letter files
  pub worked : KeptState KeptLetter D
  pub end : LetterEnd
  pub before : Option (List Call)
  pub now : Option (List Call)
  pub sent : SentBy shows counts letter worked (Ok end) before now

-- what stands there has just been looked at, to be given up
pub record WasLookedAt {D : Type 0} (shows : D → DiskSeen) (slot : Slot) (files : Option (List (FolderCall D)))
    : Type 0 where
  pub before : Option (List (FolderCall D))
  pub found : Found D
  pub looked : HasFile shows slot before files found

abbrev pub IsOver : {D : Type 0} → (D → DiskSeen) → (D → Seen) → Slot → Option (List (FolderCall D)) → Type 0
IsOver shows counts slot files = HasEnded shows counts slot files ⊎ WasLookedAt shows slot files

-- ---- a ledger

-- it was opened, and has had no note
abbrev pub IsNewLedger : LedgerState → Type 0
IsNewLedger s = (o : Opening) × (s ≡ opened_ledger o)

-- Pair and seed are those of another ledger, it goes on above that one's serials, and what it has had are the
-- notes that the other kept for it.
pub record Follows (keeping : Keeping) (old s : LedgerState) : Type 0 where
  pub first : ℕ
  pub above : next_serial old ≤ first
  pub is : s ≡ ledger_after (record { pair = old.pair; seed = old.seed; first_serial = first })
      (kept_notes keeping old)

-- a ledger that may be put in place
abbrev pub IsNextLedger : LedgerState → Type 0
IsNextLedger s = IsNewLedger s ⊎ ((keeping : Keeping) × (old : LedgerState) × Follows keeping old s)

-- ---- any step

-- Gentle calls; a ledger that is put in place, which is new or follows another one; a letter that is put in its place before anything of it went out; and a letter's file that is
-- removed once the letter has come to its end, or is given up. Each such call may fail.
pub data FolderStep {D : Type 0} (shows : D → DiskSeen) (counts : D → Seen)
    (before now : Option (List (FolderCall D))) : Type 0 where
  gentle : (call : FolderCall D) → IsGentle call → Adds before now call → FolderStep shows counts before now
  letter : (slot : Slot) (next : KeptState KeptLetter D) (failed : Bool) → IsUnsent next.machine.letter
      → Adds before now (Placed (NextOutbox slot) (Outbox slot) failed) → FolderStep shows counts before now
  ledger : (next : LedgerState) (failed : Bool) → IsNextLedger next
      → Adds before now (Placed NextLedger Ledger failed) → FolderStep shows counts before now
  over : (slot : Slot) (failed : Bool) → IsOver shows counts slot before
      → Adds before now (Removed (Outbox slot) failed) → FolderStep shows counts before now

-- behind whatever was done so before
abbrev pub FolderStepsOn : {D : Type 0} → (D → DiskSeen) → (D → Seen)
    → (before now : Option (List (FolderCall D))) → Type 0
FolderStepsOn shows counts before now = GoesOnBy (FolderStep shows counts) before now
