-- What a call does that notes something before its step.
use Rattle.std.specs.Prelude.{◌≡◌, ℕ, List, [], ◌∷◌, ◌++◌, true, false}
use Rattle.std.specs.Prelude.{Result, IsErrOf, OnOk, OnErr}
use Rattle.express_words.specs.Seen.{Seen}
use Rattle.node_journal.specs.Disk.{DiskSeen, LeavesOnly, Within}
use Rattle.node_journal.specs.Journal.{JournalState, HasSpace, LacksSpace, longer, broken}
use Rattle.node_journal.specs.declared.fault.JournalFault.TheVariants.{Closed, Full}
use Rattle.kept_machine.specs.declared.fault.KeepFault.{KeepFault}
use Rattle.kept_machine.specs.declared.fault.KeepFault.TheVariants.{Journal, NoMemory}
use Rattle.client_restart.specs.declared.opening.ClientOpening.{ClientOpening}
use Rattle.kept_machine.specs.Faults.{Counts, IsOkOrDiskFault}
use Rattle.client_restart.specs.Cores.{TakesMemory}
use Rattle.client_core.specs.Requests.{plain_request}
use Rattle.client_core.specs.declared.request.Request.{Request as Given}
use Rattle.client_restart.specs.Hears.{IsTaken}
use Rattle.client_restart.specs.Notes.{Noted, asked_note, size_of}
use Rattle.client_restart.specs.Steps.{CoreState, step_of}
use Rattle.client_restart.specs.Kept.{ClientState, HoldsNotes, LeavesNotes, StandsByNotes}

-- what is seen of a kept client
pub record Sight : Type 1 where
  pub opening : ClientOpening
  pub core : CoreState
  pub journal : JournalState
  pub disk : DiskSeen
  pub faults : ℕ

abbrev pub sight : {D : Type 0} → (D → DiskSeen) → (D → Seen) → ClientState D → Sight
sight shows counts k = record {
  opening = k.opening;
  core = k.core;
  journal = k.journal;
  disk = shows k.disk;
  faults = (counts k.disk).faults;
}

-- The faults of a note, in the order in which they are judged: what the journal won't write is never told
-- as a want of memory.
pub record IsJudged {T : Type 0} (note : Noted) (j now : JournalState) (r : Result T KeepFault) : Type 0 where
  pub closed : j.closed ≡ true → IsErrOf r (Journal Closed)
  pub full : j.closed ≡ false → LacksSpace j (size_of note) → IsErrOf r (Journal (Full j.end))
  pub memory : IsErrOf r NoMemory → TakesMemory note
  pub fits : (IsErrOf r NoMemory → ⊥) → j.closed ≡ false → HasSpace j (size_of note)
      → IsOkOrDiskFault r × OnErr r (now ≡ broken j)

-- Where the answer is Ok the note is on the disk and its step was taken, and where it is a fault no step was
-- taken. A crash at any moment of the call leaves the notes from before it, with this one or without.
pub record KeepsNote {T : Type 0} (note : Noted) (old new : Sight) (r : Result T KeepFault) : Type 0 where
  pub opening : new.opening ≡ old.opening
  pub step : OnOk r (new.core ≡ step_of old.core note)
  pub no_step : OnErr r (new.core ≡ old.core)
  pub added : OnOk r ((notes : List Noted) → HoldsNotes old.opening notes old.disk.reads
      → HoldsNotes old.opening (notes ++ note ∷ []) new.disk.reads)
  pub longer : OnOk r (new.journal ≡ longer (size_of note) old.journal)
  pub stands : new.journal.closed ≡ false → StandsByNotes old.opening new.core new.disk.reads
  pub durable : new.journal.closed ≡ false → Within new.disk.may_leave new.disk.reads
  pub any_moment : old.journal.closed ≡ false → (notes : List Noted)
      → HoldsNotes old.opening notes old.disk.reads
      → LeavesOnly old.disk new.disk (LeavesNotes old.journal.limit old.opening notes note)
  pub judged : IsJudged note old.journal new.journal r
  pub counts : Counts old.faults new.faults r

-- from the one client to the other a call does it
abbrev pub CallKeeps : {D T : Type 0} → (D → DiskSeen) → (D → Seen) → Noted → (old new : ClientState D)
    → Result T KeepFault → Type 0
CallKeeps shows seen note old new r = KeepsNote note (sight shows seen old) (sight shows seen new) r

-- the same of a request that the client takes
abbrev pub KeepsIfTaken : {D T : Type 0} → (D → DiskSeen) → (D → Seen) → Given → (old new : ClientState D)
    → Result T KeepFault → Type 0
KeepsIfTaken shows seen request old new r =
    IsTaken old.core (plain_request request) → CallKeeps shows seen (asked_note request) old new r
