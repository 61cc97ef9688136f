-- What the system was asked of a folder or of a paper, and what it answered, call by call. An object that
-- tells none of its calls has None in place of their list.
use Rattle.std.specs.Prelude.{◌≡◌, ◌⊎◌, ℕ, List, Option, Ok, Err, Bool, true, false}
use Rattle.express_outside.specs.Calls.{added}
use Rattle.desk_outside.specs.declared.folder.Hold.{Hold}
use Rattle.desk_outside.specs.declared.folder.Hold.TheVariants.{Held, Copied, InUse}
use Rattle.desk_outside.specs.declared.folder_fault.FolderFault.{FolderFault}
use Rattle.desk_outside.specs.declared.papers.Written.{Written}
use Rattle.desk_outside.specs.declared.papers.Written.TheVariants.{New, Before}
use Rattle.desk_files.specs.declared.folder_calls.FolderStep.{FolderStep}
use Rattle.desk_files.specs.declared.folder_calls.FolderStep.TheVariants.{Made, Checked, Locked, Marked}
use Rattle.desk_files.specs.declared.folder_calls.FolderStep.TheVariants.{FoundBare, MarkSet}
use Rattle.desk_files.specs.declared.paper_files.PaperStep.{PaperStep}
use Rattle.desk_files.specs.declared.paper_files.PaperStep.TheVariants.{Found, Laid, Placed, Tidied, FolderSynced}
use Rattle.desk_files.specs.declared.folder_calls.Mark.TheVariants.{This, Other, Absent}
use Rattle.desk_files.specs.declared.paper_files.Stands.{Stands}
use Rattle.desk_files.specs.declared.paper_files.Stands.TheVariants.{These}

-- The last two calls, of which each went well.
abbrev pub EndedByBoth : {A : Type 0} → Option (List A) → A → A → Type 0
EndedByBoth {A} calls first last = (before : Option (List A)) × (calls ≡ added last (added first before))

-- The folder was made, found to be its user's alone, and locked for this process, or not.
abbrev pub locked_behind : Option (List FolderStep) → Bool → Option (List FolderStep)
locked_behind before is_ours =
    added (Locked (Ok is_ours)) (added (Checked (Ok tt)) (added (Made (Ok tt)) before))

-- It was locked for this process, and there was no mark in it; whether it was bare.
abbrev pub unmarked_behind : Option (List FolderStep) → Bool → Option (List FolderStep)
unmarked_behind before is_bare =
    added (FoundBare (Ok is_bare)) (added (Marked (Ok Absent)) (locked_behind before true))

-- What the answer to a hold stands for, by all the calls that it made: another process has the lock; or this
-- one has it, and the mark is this lock's or was set in a bare folder; or this one has it, and the mark is
-- another lock's or there is none beside what a desk left.
abbrev pub IsHoldOf : Hold → (before calls : Option (List FolderStep)) → Type 0
IsHoldOf InUse before calls = calls ≡ locked_behind before false
IsHoldOf Held before calls = (calls ≡ added (Marked (Ok This)) (locked_behind before true))
    ⊎ (calls ≡ added (MarkSet (Ok tt)) (unmarked_behind before true))
IsHoldOf Copied before calls = (calls ≡ added (Marked (Ok Other)) (locked_behind before true))
    ⊎ (calls ≡ unmarked_behind before false)

-- All the calls of a hold that failed: the last of them did, with the fault that is told.
abbrev pub FailsToHold : FolderFault → (before calls : Option (List FolderStep)) → Type 0
FailsToHold fault before calls = (calls ≡ added (Made (Err fault)) before)
    ⊎ (calls ≡ added (Checked (Err fault)) (added (Made (Ok tt)) before))
    ⊎ (calls ≡ added (Locked (Err fault)) (added (Checked (Ok tt)) (added (Made (Ok tt)) before)))
    ⊎ (calls ≡ added (Marked (Err fault)) (locked_behind before true))
    ⊎ (calls ≡ added (FoundBare (Err fault)) (added (Marked (Ok Absent)) (locked_behind before true)))
    ⊎ (calls ≡ added (MarkSet (Err fault)) (unmarked_behind before true))

-- the same behind a lock that this process got
abbrev pub HoldsBehindLock : Hold → (locked calls : Option (List FolderStep)) → Type 0
HoldsBehindLock hold locked calls =
    (before : Option (List FolderStep)) → locked ≡ locked_behind before true → IsHoldOf hold before calls

abbrev pub FailsBehindLock : FolderFault → (locked calls : Option (List FolderStep)) → Type 0
FailsBehindLock fault locked calls =
    (before : Option (List FolderStep)) → locked ≡ locked_behind before true → FailsToHold fault before calls

-- Behind these calls this stood under a name of a folder, nothing was left beside it, and the disk had the
-- folder's names.
abbrev pub FoundBehind : (before calls : Option (List PaperStep)) → (folder name bytes : List ℕ) → Stands
    → Type 0
FoundBehind before calls folder name bytes stands =
    calls ≡ added (FolderSynced folder (Ok tt)) (added (Tidied folder name (Ok tt))
    (added (Found folder name bytes (Ok stands)) before))

-- bytes were written beside a name, and given the name, which nothing had
abbrev pub PutNew : Option (List PaperStep) → (folder name bytes : List ℕ) → Type 0
PutNew calls folder name bytes =
    EndedByBoth calls (Laid folder name bytes (Ok tt)) (Placed folder name bytes (Ok true))

-- What the answer to a write stands for: that these bytes were put under the name, and that they stood there.
abbrev pub IsAnswered : Written → Option (List PaperStep) → (folder name bytes : List ℕ) → Type 0
IsAnswered New calls folder name bytes = (before : Option (List PaperStep))
    × PutNew before folder name bytes × FoundBehind before calls folder name bytes These
IsAnswered Before calls folder name bytes =
    (before : Option (List PaperStep)) × FoundBehind before calls folder name bytes These
