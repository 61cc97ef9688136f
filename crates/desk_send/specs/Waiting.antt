-- How letters that are on their way are told, and given up.
use Rattle.std.specs.Prelude.{◌≡◌, ◌⊎◌, ◌<◌, ℕ, Bool, true, false, List, Option, Some, None}
use Rattle.express_words.specs.Streams.{Took}
use Rattle.node_journal.specs.Disk.{DiskSeen}
use Rattle.desk_outside.specs.Calls.{Adds, FolderCall, Removed}
use Rattle.desk_outside.specs.declared.folder.DeskFile.TheVariants.{Outbox}
use Rattle.desk_outside.specs.declared.folder.Slot.{Slot}
use Rattle.desk_around.specs.declared.trouble.Trouble.{Trouble}
use Rattle.desk_around.specs.declared.trouble.Trouble.TheVariants as trouble
use Rattle.desk_steps.specs.Finding.{IsAt, is_taken}
use Rattle.desk_steps.specs.Folder.{WasLookedAt}
use Rattle.desk_steps.specs.declared.finding.Found.{Found}
use Rattle.desk_send.specs.Labels.{given_up_text, number_of, waiting_text}
use Rattle.desk_send.specs.Places.{EachPlace, IsTakenAt, slot_at}
use Rattle.desk_send.specs.Searching.{FindsOnly, FindsSeveral}

-- the calls on the folder, and the output's text
pub record View (D : Type 0) : Type 0 where
  pub files : Option (List (FolderCall D))
  pub written : Option (List ℕ)

abbrev pub view_of : {D : Type 0} → Option (List (FolderCall D)) → Option (List ℕ) → View D
view_of files written = record { files = files; written = written }

-- ---- status

-- What stands at the place is told.
pub record SaysLetter {D : Type 0} (shows : D → DiskSeen) (slot : Slot) (old new : View D) : Type 0 where
  pub found : Found D
  pub is_at : IsAt shows slot old.files new.files found
  pub said : Took old.written new.written (waiting_text (number_of slot) found)

-- at each of the first places
abbrev pub SaysUpTo : {D : Type 0} → (D → DiskSeen) → (old : View D) → ℕ → (new : View D) → Type 0
SaysUpTo shows old n new = EachPlace (λ k. SaysLetter shows (slot_at k)) old n new

-- of the eight
abbrev pub SaysLetters : {D : Type 0} → (D → DiskSeen) → (old_files new_files : Option (List (FolderCall D)))
    → (old new : Option (List ℕ)) → Type 0
SaysLetters shows old_files new_files old new =
    SaysUpTo shows (view_of old_files old) 8 (view_of new_files new)

-- what stands at the place was looked at, and nothing else was done
abbrev pub IsLookedAt : {D : Type 0} → (D → DiskSeen) → Slot → (old new : Option (List (FolderCall D)))
    → Type 0
IsLookedAt {D} shows slot old new = (found : Found D) × IsAt shows slot old new found

-- The first places are told, and what stands at one more was looked at; nothing else was done.
pub record SaysInPart {D : Type 0} (shows : D → DiskSeen) (old new : View D) : Type 0 where
  pub number : ℕ
  pub mid : View D
  pub said : SaysUpTo shows old number mid
  pub looked : IsLookedAt shows (slot_at number) mid.files new.files

-- where the output couldn't take a line
abbrev pub IfUnlisted : {D : Type 0} → (D → DiskSeen) → (old_files new_files : Option (List (FolderCall D)))
    → (old new : Option (List ℕ)) → Trouble → Type 0
IfUnlisted shows old_files new_files old new t =
    t ≡ trouble.Out → SaysInPart shows (view_of old_files old) (view_of new_files new)

-- ---- given up

-- What stands at the place is told as given up, and then its file is removed.
pub record GivesLetterUp {D : Type 0} (shows : D → DiskSeen) (was_copied : Bool) (slot : Slot)
    (old new : View D) : Type 0 where
  pub found : Found D
  pub looked : Option (List (FolderCall D))
  pub is_at : IsAt shows slot old.files looked found
  pub taken : is_taken found ≡ true
  pub said : Took old.written new.written (given_up_text was_copied found)
  pub removed : Adds looked new.files (Removed (Outbox slot) false)

-- Nothing stands there, and nothing is told.
pub record HasNothing {D : Type 0} (shows : D → DiskSeen) (slot : Slot) (old new : View D) : Type 0 where
  pub found : Found D
  pub is_at : IsAt shows slot old.files new.files found
  pub free : is_taken found ≡ false
  pub silent : new.written ≡ old.written

-- whether something was given up there
abbrev pub GivesUpIf : {D : Type 0} → (D → DiskSeen) → (was_copied : Bool) → Slot → (old new : View D) → Bool
    → Type 0
GivesUpIf shows was_copied slot old new true = GivesLetterUp shows was_copied slot old new
GivesUpIf shows was_copied slot old new false = HasNothing shows slot old new

-- the same, of the folder's calls and the output's text
abbrev pub GivesUpAt : {D : Type 0} → (D → DiskSeen) → (was_copied : Bool) → Slot
    → (old_files new_files : Option (List (FolderCall D))) → (old new : Option (List ℕ)) → Bool → Type 0
GivesUpAt shows was_copied slot old_files new_files old new there =
    GivesUpIf shows was_copied slot (view_of old_files old) (view_of new_files new) there

-- one or the other
abbrev pub GivesUpAny : {D : Type 0} → (D → DiskSeen) → (was_copied : Bool) → Slot → (old new : View D)
    → Type 0
GivesUpAny shows was_copied slot old new =
    HasNothing shows slot old new ⊎ GivesLetterUp shows was_copied slot old new

-- at each of the first places
abbrev pub GiveUpTo : {D : Type 0} → (D → DiskSeen) → (was_copied : Bool) → (old : View D) → ℕ
    → (new : View D) → Type 0
GiveUpTo shows was_copied old n new = EachPlace (λ k. GivesUpAny shows was_copied (slot_at k)) old n new

-- of the eight, where the folder was copied
abbrev pub GivesAllUp : {D : Type 0} → (D → DiskSeen) → (old_files new_files : Option (List (FolderCall D)))
    → (old new : Option (List ℕ)) → Type 0
GivesAllUp shows old_files new_files old new =
    GiveUpTo shows true (view_of old_files old) 8 (view_of new_files new)

-- Where the output couldn't take its line, what stands at the place is there still: it was looked at last.
abbrev pub IfUnsaid : {D : Type 0} → (D → DiskSeen) → (files : Option (List (FolderCall D))) → Trouble
    → Type 0
IfUnsaid shows files t = t ≡ trouble.Out → (slot : Slot) × WasLookedAt shows slot files

-- ---- discard

-- the place whose number is named, or else the only one that is taken
abbrev pub Chooses : {D : Type 0} → (D → DiskSeen) → Option ℕ → (old new : Option (List (FolderCall D)))
    → Slot → Type 0
Chooses shows (Some number) old new slot = (new ≡ old) × (number_of slot ≡ number)
Chooses shows None old new slot = FindsOnly shows old new (Some slot)

pub record Discards {D : Type 0} (shows : D → DiskSeen) (number : Option ℕ)
    (old_files new_files : Option (List (FolderCall D))) (old new : Option (List ℕ)) : Type 0 where
  pub slot : Slot
  pub chosen : Option (List (FolderCall D))
  pub chooses : Chooses shows number old_files chosen slot
  pub gives_up : GivesLetterUp shows false slot (view_of chosen old) (view_of new_files new)

-- ---- none to discard

-- at the place of this number nothing stands, or there is none
pub record StandsNothing {D : Type 0} (shows : D → DiskSeen) (number : ℕ)
    (files : Option (List (FolderCall D))) : Type 0 where
  pub slot : Slot
  pub is : number_of slot ≡ number
  pub before : Option (List (FolderCall D))
  pub free : IsTakenAt shows slot before files false

abbrev pub HasNoneAt : {D : Type 0} → (D → DiskSeen) → (number : ℕ) → Option (List (FolderCall D)) → Type 0
HasNoneAt shows number files = (number ≡ 0) ⊎ ((8 < number) ⊎ StandsNothing shows number files)

-- several letters are on their way, and they were listed
pub record ListsSeveral {D : Type 0} (shows : D → DiskSeen)
    (old_files new_files : Option (List (FolderCall D))) (old new : Option (List ℕ)) : Type 0 where
  pub mid : Option (List (FolderCall D))
  pub several : FindsSeveral shows old_files mid
  pub listed : SaysLetters shows mid new_files old new

-- Without a number there is no letter, or there are several; of a number there is none. The others say
-- nothing of letters.
abbrev pub RefusesDiscard : {D : Type 0} → (D → DiskSeen) → (number : Option ℕ)
    → (old_files new_files : Option (List (FolderCall D))) → (old new : Option (List ℕ)) → Trouble → Type 0
RefusesDiscard shows number old_files new_files old new trouble.NoLetters =
    (number ≡ None) × FindsOnly shows old_files new_files None
RefusesDiscard shows number old_files new_files old new trouble.WhichLetter =
    (number ≡ None) × ListsSeveral shows old_files new_files old new
RefusesDiscard shows number old_files new_files old new (trouble.NoLetterAt none) =
    HasNoneAt shows none new_files
RefusesDiscard shows number old_files new_files old new other = Unit {0}

-- several letters are on their way, and they were listed in part; nothing else was done
pub record ListsInPart {D : Type 0} (shows : D → DiskSeen)
    (old_files new_files : Option (List (FolderCall D))) : Type 0 where
  pub mid : Option (List (FolderCall D))
  pub several : FindsSeveral shows old_files mid
  pub before : Option (List ℕ)
  pub now : Option (List ℕ)
  pub listed : SaysInPart shows (view_of mid before) (view_of new_files now)

-- Where the output couldn't take a line, no letter was removed.
abbrev pub IfUndiscarded : {D : Type 0} → (D → DiskSeen)
    → (old_files new_files : Option (List (FolderCall D))) → Trouble → Type 0
IfUndiscarded shows old_files new_files t = t ≡ trouble.Out
    → ((slot : Slot) × WasLookedAt shows slot new_files) ⊎ ListsInPart shows old_files new_files
