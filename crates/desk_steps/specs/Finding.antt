-- What stands at the places of letters on their way, as the folder's calls tell.
use Rattle.std.specs.Prelude.{◌≡◌, ◌⊎◌, ℕ, Bool, true, false, List, Option, Some}
use Rattle.desk_outside.specs.Calls.{Adds, FolderCall, Looked, Opened}
use Rattle.desk_outside.specs.declared.folder.DeskFile.TheVariants.{Outbox}
use Rattle.desk_outside.specs.declared.folder.Slot.{Slot}
use Rattle.kept_letter.specs.Machines.{letter_rules}
use Rattle.kept_machine.specs.Kept.{HoldsNoForm, Stands}
use Rattle.node_journal.specs.Disk.{DiskSeen}
use Rattle.node_journal.specs.Records.{IsUndamaged}
use Rattle.desk_steps.specs.declared.finding.Found.{Found}
use Rattle.desk_steps.specs.declared.finding.Found.TheVariants as found

-- no letter's records, or damaged: no more than 2^26 bytes are used
abbrev pub IsUnreadable : (List ℕ → Type 0) → Type 0
IsUnreadable reads =
    HoldsNoForm letter_rules reads ⊎ ((c : List ℕ) → reads c → IsUndamaged 67108864 0 c → ⊥)

-- what a file that is there holds
abbrev pub Holds : {D : Type 0} → (List ℕ → Type 0) → Found D → Type 0
Holds reads found.Nothing = ⊥
Holds reads (found.Letter letter) = Stands letter_rules letter.machine reads
Holds reads found.Unreadable = IsUnreadable reads

-- The folder was asked for the file of this place, and opened it; it holds this.
pub record HasFile {D : Type 0} (shows : D → DiskSeen) (slot : Slot) (old new : Option (List (FolderCall D)))
    (f : Found D) : Type 0 where
  pub looked : Option (List (FolderCall D))
  pub look : Adds old looked (Looked (Outbox slot) (Some true))
  pub disk : D
  pub opened : Adds looked new (Opened (Outbox slot) (Some disk))
  pub holds : Holds (shows disk).reads f

-- Or it was asked, and has none.
pub record HasNoFile {D : Type 0} (slot : Slot) (old new : Option (List (FolderCall D))) (f : Found D)
    : Type 0 where
  pub look : Adds old new (Looked (Outbox slot) (Some false))
  pub nothing : f ≡ found.Nothing

-- from old to new the folder was asked what stands at the place, and it is this
abbrev pub IsAt : {D : Type 0} → (D → DiskSeen) → Slot → (old new : Option (List (FolderCall D))) → Found D
    → Type 0
IsAt shows slot old new f = HasNoFile slot old new f ⊎ HasFile shows slot old new f

abbrev pub is_taken : {D : Type 0} → Found D → Bool
is_taken found.Nothing = false
is_taken (found.Letter letter) = true
is_taken found.Unreadable = true
