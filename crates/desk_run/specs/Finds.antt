-- What stands at the places of letters on their way, as the folder's calls tell.
use Rattle.std.specs.Prelude.{◌≡◌, ◌⊎◌, ℕ, ◌+◌, Bool, true, false, List, Option, Some}
use Rattle.client_restart.specs.Kept.{StandsByNotes}
use Rattle.desk_outbox.specs.Outboxes.{OutboxState}
use Rattle.desk_outbox.specs.Reopening.{HoldsOnly, IsNoTryOf, IsNoWhole, Tells}
use Rattle.desk_outside.specs.Calls.{Adds, FolderCall, Looked, Opened}
use Rattle.desk_outside.specs.declared.folder.DeskFile.TheVariants.{Outbox}
use Rattle.desk_outside.specs.declared.folder.Slot.{Slot}
use Rattle.node_journal.specs.Disk.{DiskSeen}
use Rattle.node_journal.specs.Records.{IsUndamaged}
use Rattle.desk_run.specs.declared.finding.Found.{Found}
use Rattle.desk_run.specs.declared.finding.Found.TheVariants as found

-- ---- one place

-- a try, as its notes tell it
pub record IsLetterOn {D : Type 0} (reads : List ℕ → Type 0) (o : OutboxState D) : Type 0 where
  pub stands : StandsByNotes o.kept.opening o.kept.core reads
  pub told : Tells o.kept.core.remarks o.card o.place

-- no whole try, or damaged: no more than 2^16 bytes are used
abbrev pub IsUnreadable : (List ℕ → Type 0) → Type 0
IsUnreadable reads = HoldsOnly IsNoWhole reads ⊎ ((c : List ℕ) → reads c → IsUndamaged 65536 0 c → ⊥)

-- what such a file holds; where it is nothing, nothing was sent for it
abbrev pub Holds : {D : Type 0} → (List ℕ → Type 0) → Found D → Type 0
Holds reads found.Nothing = HoldsOnly IsNoTryOf reads
Holds reads (found.Letter o) = IsLetterOn reads o
Holds reads found.Unreadable = IsUnreadable reads

-- The folder was asked for the file of this place, and opened it; it holds this.
pub record HasFile {D : Type 0} (shows : D → DiskSeen) (slot : Slot) (old new : Option (List (FolderCall D)))
    (f : Found D) : Type 0 where
  pub looked : Option (List (FolderCall D))
  pub look : Adds old looked (Looked (Outbox slot) (Some true))
  pub disk : D
  pub opened : Adds looked new (Opened (Outbox slot) (Some disk))
  pub holds : Holds (shows disk).reads f

-- Or it was asked, and has none.
pub record HasNoFile {D : Type 0} (slot : Slot) (old new : Option (List (FolderCall D))) (f : Found D)
    : Type 0 where
  pub look : Adds old new (Looked (Outbox slot) (Some false))
  pub nothing : f ≡ found.Nothing

-- from old to new the folder was asked what stands at the place, and it is this
abbrev pub IsAt : {D : Type 0} → (D → DiskSeen) → Slot → (old new : Option (List (FolderCall D))) → Found D
    → Type 0
IsAt shows slot old new f = HasNoFile slot old new f ⊎ HasFile shows slot old new f

abbrev pub is_taken : {D : Type 0} → Found D → Bool
is_taken found.Nothing = false
is_taken (found.Letter o) = true
is_taken found.Unreadable = true

-- whether something stands there
pub record IsTakenAt {D : Type 0} (shows : D → DiskSeen) (slot : Slot) (old new : Option (List (FolderCall D)))
    (taken : Bool) : Type 0 where
  pub found : Found D
  pub is_at : IsAt shows slot old new found
  pub is : taken ≡ is_taken found

-- ---- place by place

abbrev pub slot_at : ℕ → Slot
slot_at n = record { number = n }

-- One step after another, the one at each of so many places.
pub data EachPlace {S : Type 0} (Step : ℕ → S → S → Type 0) (old : S) : ℕ → S → Type 0 where
  start : EachPlace Step old 0 old
  next : (n : ℕ) (mid new : S) → EachPlace Step old n mid → Step n mid new → EachPlace Step old (n + 1) new
