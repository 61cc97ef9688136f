-- What each word does, where it is done.
use Rattle.std.specs.Prelude.{◌≡◌, IfSome, ℕ, Bool, false, true, List, Option, Some, None}
use denote.Bor.{Bor}
use Rattle.express_words.specs.Seen.{Seen}
use Rattle.node_journal.specs.Disk.{DiskSeen}
use Rattle.clap.specs.Words.{Text}
use Rattle.desk_ledger.specs.Ledgers.{LedgerState}
use Rattle.desk_ledger.specs.Tags.{tag_of}
use Rattle.desk_outside.specs.Calls.{FolderCall}
use Rattle.desk_texts.specs.Days.{IsDay}
use Rattle.desk_texts.specs.declared.day.Day.{Day}
use Rattle.desk_words.specs.CommandLine.{AskSome, IsAsked}
use Rattle.desk_words.specs.declared.task.DeskTask.{DeskTask}
use Rattle.desk_words.specs.declared.task.DeskTask.TheVariants as task
use Rattle.desk_run.specs.declared.ending.WordEnd.{WordEnd}
use Rattle.desk_run.specs.declared.ending.WordEnd.TheVariants as ending
use Rattle.desk_run.specs.declared.boxes.Wanted.{Wanted}
use Rattle.desk_run.specs.Carried.{ComesBack, HasNothingLeft, Resumes}
use Rattle.desk_run.specs.Changes.{NotesShown, NotesTold, Renews, TellsCard, TellsNewAnd, WantsBoxes, WantsRetired}
use Rattle.desk_run.specs.Changes.{forgotten_line, retired_line}
use Rattle.desk_run.specs.Fits.{ChecksPair}
use Rattle.desk_run.specs.Holds.{Clears, IsTaken}
use Rattle.desk_run.specs.Opens.{Finds, Opens}
use Rattle.desk_run.specs.Leaving.{LeavesLetter}
use Rattle.desk_run.specs.Printing.{Prints}
use Rattle.desk_run.specs.Rooms.{IsNearlyFull}
use Rattle.desk_run.specs.Scenes.{Scene}
use Rattle.desk_run.specs.Shown.{IsCardFor, new_letters}
use Rattle.desk_run.specs.Standings.{TellsDesk, no_desk}
use Rattle.desk_run.specs.Told.{TellsLetters, end_of, told_of}
use Rattle.desk_run.specs.Resuming.{ResumesAll}
use Rattle.desk_run.specs.Waiting.{Discards, SaysLetters}
use Rattle.desk_run.specs.Works.{Goes, ReadsLive}

-- ---- card

-- The ledger is opened, and the card of the name's live boxes is printed.
pub record ShowsCard {D : Type 0} (shows : D → DiskSeen) (name : List ℕ)
    (old_files new_files : Option (List (FolderCall D))) (old new : Option (List ℕ)) : Type 0 where
  pub ledger : LedgerState D
  pub opens : Opens shows old_files new_files ledger
  pub card : Prints (IsCardFor ledger name) old new

-- ---- status

-- The desk is told of, or that there is none.
abbrev pub StatusBy : {D : Type 0} → Option (LedgerState D) → List ℕ → Type 0
StatusBy None text = text ≡ no_desk
StatusBy (Some ledger) text = TellsDesk ledger text

-- The ledger is opened, where there is one; how it stands is printed, and each letter that is on its way.
pub record ShowsStatus {D : Type 0} (shows : D → DiskSeen)
    (old_files new_files : Option (List (FolderCall D))) (old new : Option (List ℕ)) : Type 0 where
  pub ledger : Option (LedgerState D)
  pub files : Option (List (FolderCall D))
  pub finds : Finds shows old_files files ledger
  pub mid : Option (List ℕ)
  pub tells : Prints (StatusBy ledger) old mid
  pub letters : SaysLetters shows files new_files mid new

-- ---- letters

-- The desk is resumed, each live box is read, and what the ledger then has is told and then noted so: without a folder
-- its new letters, with one those that weren't written.
pub record FetchesLetters {D : Type 0} (shows : D → DiskSeen) (out : Option (Bor (List ℕ))) (end : WordEnd)
    (old new : Scene D) : Type 0 where
  pub resumed : LedgerState D
  pub mid : Scene D
  pub resumes : Resumes shows old mid resumed
  pub now : LedgerState D
  pub reads : ReadsLive resumed now mid.calls new.calls
  pub files : new.files ≡ mid.files
  pub told : Prints (TellsLetters out (tag_of now.client.opening.seed) now.entries) old.written new.written
  pub noted : LedgerState D
  pub notes : NotesTold out now noted
  pub ends : end ≡ end_of (told_of out now.entries)

-- ---- box

-- The desk is resumed and has room, so many new addresses are noted under the name where it isn't used yet, and all that
-- is left to be done then is done; the card that is printed is of the addresses that have boxes now. Its last day is
-- the one that is named, if one is.
pub record OpensBoxes {D : Type 0} (shows : D → DiskSeen) (wanted : Wanted) (old new : Scene D) : Type 0 where
  pub day : Day
  pub named : IfSome wanted.until (λ named. IsDay named → day ≡ named)
  pub resumed : LedgerState D
  pub mid : Scene D
  pub resumes : Resumes shows old mid resumed
  pub room : IsNearlyFull resumed.client.journal.end → ⊥
  pub noted : LedgerState D
  pub wants : WantsBoxes wanted.name.now wanted.count day resumed noted
  pub now : LedgerState D
  pub goes : Goes noted mid.calls now new.calls
  pub nothing_left : HasNothingLeft now
  pub files : new.files ≡ mid.files
  pub told : Prints (TellsCard now wanted.name.now) old.written new.written

-- ---- retire

-- The desk is resumed and has room, the name is noted as one to be retired, and all that is left to be done then is done:
-- each of its boxes is read for the last time. The new letters are told.
pub record RetiresBoxes {D : Type 0} (shows : D → DiskSeen) (name : List ℕ) (end : WordEnd)
    (old new : Scene D) : Type 0 where
  pub resumed : LedgerState D
  pub mid : Scene D
  pub resumes : Resumes shows old mid resumed
  pub room : IsNearlyFull resumed.client.journal.end → ⊥
  pub noted : LedgerState D
  pub wants : WantsRetired name resumed noted
  pub now : LedgerState D
  pub goes : Goes noted mid.calls now new.calls
  pub nothing_left : HasNothingLeft now
  pub files : new.files ≡ mid.files
  pub told : Prints (TellsNewAnd (retired_line name) now.entries) old.written new.written
  pub ends : end ≡ end_of (new_letters now.entries)

-- with --now; without it nothing is said but what is noted
abbrev pub GivesUp : {D : Type 0} → (D → DiskSeen) → (name : List ℕ) → (now : Bool) → WordEnd → (old new : Scene D)
    → Type 0
GivesUp shows name true end old new = RetiresBoxes shows name end old new
GivesUp shows name false end old new = Unit {0}

-- ---- forget

-- The desk comes back, its new letters are told and noted as shown, and a ledger that follows is put in the
-- place of this one.
pub record ForgetsLetters {D : Type 0} (shows : D → DiskSeen) (end : WordEnd) (old new : Scene D)
    : Type 0 where
  pub resumed : LedgerState D
  pub mid : Scene D
  pub comes : ComesBack shows old mid resumed
  pub noted : LedgerState D
  pub notes : NotesShown resumed noted
  pub renews : Renews shows noted mid.files new.files
  pub calls : new.calls ≡ mid.calls
  pub told : Prints (TellsNewAnd forgotten_line resumed.entries) old.written new.written
  pub ends : end ≡ end_of (new_letters resumed.entries)

-- ---- any word

abbrev pub Does : {D : Type 0} → (D → DiskSeen) → (D → Seen) → DeskTask → WordEnd → (old new : Scene D)
    → Type 0
Does shows counts (task.Open pair) end old new = ChecksPair old.calls new.calls
Does shows counts (task.Card name) end old new =
    ShowsCard shows name.now old.files new.files old.written new.written
Does shows counts task.Status end old new = ShowsStatus shows old.files new.files old.written new.written
Does shows counts (task.Letters out) end old new = FetchesLetters shows out end old new
Does shows counts (task.Send card file) end old new = LeavesLetter shows counts end old new
Does shows counts task.Resume end old new = ResumesAll shows counts end old new
Does shows counts (task.Discard number) end old new =
    Discards shows number old.files new.files old.written new.written
Does shows counts (task.Box name count until) end old new =
    OpensBoxes shows (record { name = name; count = count; until = until }) old new
Does shows counts (task.Retire name now) end old new = GivesUp shows name.now now end old new
Does shows counts task.Forget end old new = ForgetsLetters shows end old new
Does shows counts other end old new = Unit {0}

-- The folder is taken for this process alone, what a stop left of tries goes, and then the word does what it is
-- to do.
pub record DoesAlone {D : Type 0} (shows : D → DiskSeen) (counts : D → Seen) (t : DeskTask) (end : WordEnd)
    (old new : Scene D) : Type 0 where
  pub held : Option (List (FolderCall D))
  pub takes : IsTaken old.files held t
  pub cleared : Option (List (FolderCall D))
  pub clears : Clears held 8 cleared
  pub does : Does shows counts t end (record old { files = cleared }) new

-- the same of each word but the help, which needs no folder
abbrev pub DoesWord : {D : Type 0} → (D → DiskSeen) → (D → Seen) → DeskTask → WordEnd → (old new : Scene D)
    → Type 0
DoesWord shows counts task.Help end old new = Unit {0}
DoesWord shows counts other end old new = DoesAlone shows counts other end old new

-- Where the status is 0 or 5 the word has done what it is to do.
pub record DoneBy {D : Type 0} (shows : D → DiskSeen) (counts : D → Seen) (t : DeskTask) (status : ℕ)
    (old new : Scene D) : Type 0 where
  pub done : status ≡ 0 → DoesWord shows counts t ending.Done old new
  pub met : status ≡ 5 → DoesWord shows counts t ending.Met old new

-- The same of the word that is asked for.
pub record DoneAsAsked {D : Type 0} (shows : D → DiskSeen) (counts : D → Seen) (words : List Text)
    (status : ℕ) (old new : Scene D) : Type 0 where
  pub task : DeskTask
  pub asked : IsAsked words (Some task)
  pub done : DoneBy shows counts task status old new

-- where one is asked for
abbrev pub DoneIfAsked : {D : Type 0} → (D → DiskSeen) → (D → Seen) → List Text → (status : ℕ)
    → (old new : Scene D) → Type 0
DoneIfAsked shows counts words status old new =
    AskSome words → DoneAsAsked shows counts words status old new
