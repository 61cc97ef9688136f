-- How letters that are on their way are told, and given up.
use Rattle.std.specs.Prelude.{◌≡◌, ◌⊎◌, ℕ, Bool, true, false, List, Option, Some, None}
use Rattle.express_words.specs.Streams.{Took}
use Rattle.node_journal.specs.Disk.{DiskSeen}
use Rattle.desk_outside.specs.Calls.{Adds, FolderCall, Removed}
use Rattle.desk_outside.specs.declared.folder.DeskFile.TheVariants.{Outbox}
use Rattle.desk_outside.specs.declared.folder.Slot.{Slot}
use Rattle.desk_run.specs.declared.finding.Found.{Found}
use Rattle.desk_run.specs.Finds.{EachPlace, IsAt, is_taken, slot_at}
use Rattle.desk_run.specs.Labels.{TellsGivenUp, TellsWaiting, number_of}
use Rattle.desk_run.specs.Searching.{FindsOnly}

-- the calls on the folder, and the output's text
pub record View (D : Type 0) : Type 0 where
  pub files : Option (List (FolderCall D))
  pub written : Option (List ℕ)

abbrev pub view_of : {D : Type 0} → Option (List (FolderCall D)) → Option (List ℕ) → View D
view_of files written = record { files = files; written = written }

-- ---- status

-- What stands at the place is told.
pub record SaysLetter {D : Type 0} (shows : D → DiskSeen) (slot : Slot) (old new : View D) : Type 0 where
  pub found : Found D
  pub is_at : IsAt shows slot old.files new.files found
  pub line : List ℕ
  pub tells : TellsWaiting (number_of slot) found line
  pub said : Took old.written new.written line

-- at each of the first places
abbrev pub SaysUpTo : {D : Type 0} → (D → DiskSeen) → (old : View D) → ℕ → (new : View D) → Type 0
SaysUpTo shows old n new = EachPlace (λ k. SaysLetter shows (slot_at k)) old n new

-- of the eight
abbrev pub SaysLetters : {D : Type 0} → (D → DiskSeen) → (old_files new_files : Option (List (FolderCall D)))
    → (old new : Option (List ℕ)) → Type 0
SaysLetters shows old_files new_files old new = SaysUpTo shows (view_of old_files old) 8 (view_of new_files new)

-- ---- given up

-- What stands at the place is told as given up, and then its file is removed.
pub record GivesLetterUp {D : Type 0} (shows : D → DiskSeen) (was_copied : Bool) (slot : Slot) (old new : View D)
    : Type 0 where
  pub found : Found D
  pub looked : Option (List (FolderCall D))
  pub is_at : IsAt shows slot old.files looked found
  pub taken : is_taken found ≡ true
  pub line : List ℕ
  pub tells : TellsGivenUp was_copied found line
  pub said : Took old.written new.written line
  pub removed : Adds looked new.files (Removed (Outbox slot) false)

-- Nothing stands there, and nothing is told.
pub record HasNothing {D : Type 0} (shows : D → DiskSeen) (slot : Slot) (old new : View D) : Type 0 where
  pub found : Found D
  pub is_at : IsAt shows slot old.files new.files found
  pub free : is_taken found ≡ false
  pub silent : new.written ≡ old.written

-- whether something was given up there
abbrev pub GivesUpIf : {D : Type 0} → (D → DiskSeen) → (was_copied : Bool) → Slot → (old new : View D) → Bool
    → Type 0
GivesUpIf shows was_copied slot old new true = GivesLetterUp shows was_copied slot old new
GivesUpIf shows was_copied slot old new false = HasNothing shows slot old new

-- one or the other
abbrev pub GivesUpAny : {D : Type 0} → (D → DiskSeen) → (was_copied : Bool) → Slot → (old new : View D) → Type 0
GivesUpAny shows was_copied slot old new =
    HasNothing shows slot old new ⊎ GivesLetterUp shows was_copied slot old new

-- at each of the first places
abbrev pub GiveUpTo : {D : Type 0} → (D → DiskSeen) → (was_copied : Bool) → (old : View D) → ℕ → (new : View D)
    → Type 0
GiveUpTo shows was_copied old n new = EachPlace (λ k. GivesUpAny shows was_copied (slot_at k)) old n new

-- ---- discard

-- the place whose number is named, or else the only one that is taken
abbrev pub Chooses : {D : Type 0} → (D → DiskSeen) → Option ℕ → (old new : Option (List (FolderCall D))) → Slot
    → Type 0
Chooses shows (Some number) old new slot = (new ≡ old) × (number_of slot ≡ number)
Chooses shows None old new slot = FindsOnly shows old new (Some slot)

pub record Discards {D : Type 0} (shows : D → DiskSeen) (number : Option ℕ)
    (old_files new_files : Option (List (FolderCall D))) (old new : Option (List ℕ)) : Type 0 where
  pub slot : Slot
  pub chosen : Option (List (FolderCall D))
  pub chooses : Chooses shows number old_files chosen slot
  pub gives_up : GivesLetterUp shows false slot (view_of chosen old) (view_of new_files new)
