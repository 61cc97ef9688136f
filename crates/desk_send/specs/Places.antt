-- The places of letters on their way, one after another.
use Rattle.std.specs.Prelude.{◌≡◌, ℕ, ◌+◌, Bool, List, Option}
use Rattle.node_journal.specs.Disk.{DiskSeen}
use Rattle.desk_outside.specs.Calls.{FolderCall}
use Rattle.desk_outside.specs.declared.folder.Slot.{Slot}
use Rattle.desk_steps.specs.declared.finding.Found.{Found}
use Rattle.desk_steps.specs.Finding.{IsAt, is_taken}

abbrev pub slot_at : ℕ → Slot
slot_at n = record { number = n }

-- whether something stands there
pub record IsTakenAt {D : Type 0} (shows : D → DiskSeen) (slot : Slot)
    (old new : Option (List (FolderCall D)))
    (taken : Bool) : Type 0 where
  pub found : Found D
  pub is_at : IsAt shows slot old new found
  pub is : taken ≡ is_taken found

-- One step after another, the one at each of so many places.
pub data EachPlace {S : Type 0} (Step : ℕ → S → S → Type 0) (old : S) : ℕ → S → Type 0 where
  start : EachPlace Step old 0 old
  next : (n : ℕ) (mid new : S) → EachPlace Step old n mid → Step n mid new → EachPlace Step old (n + 1) new
