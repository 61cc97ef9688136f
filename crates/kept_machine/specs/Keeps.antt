-- What a call does that keeps a record before its step.
use Rattle.std.specs.Prelude.{◌≡◌, ℕ, List, [], ◌∷◌, ◌++◌, length, true, false}
use Rattle.std.specs.Prelude.{Option, Some, None, Result, IsErrOf, IsOk, OnOk, OnErr}
use Rattle.express_words.specs.Seen.{Seen}
use Rattle.node_journal.specs.Disk.{DiskSeen, LeavesOnly, Within}
use Rattle.node_journal.specs.Records.{Appended, IsUndamaged}
use Rattle.node_journal.specs.Journal.{JournalState, HasSpace, LacksSpace, IsOkOrDisk, LeavesWithOrWithout}
use Rattle.node_journal.specs.Journal.{longer, broken}
use Rattle.node_journal.specs.declared.fault.JournalFault.{JournalFault}
use Rattle.node_journal.specs.declared.fault.JournalFault.TheVariants.{Closed, NotEmpty, Full, Disk, Damaged}
use Rattle.kept_machine.specs.declared.fault.KeepFault.{KeepFault}
use Rattle.kept_machine.specs.declared.fault.KeepFault.TheVariants.{Journal, NoMemory}
use Rattle.kept_machine.specs.Faults.{Counts, IsOkOrDiskFault, OnStill}
use Rattle.kept_machine.specs.Machines.{Rules}
use Rattle.kept_machine.specs.Kept.{KeptState, Holds, LeavesRecords, Stands}

-- why a record of so many bytes won't be written, judged before anything is: none where it is then appended
abbrev pub IsFaultBefore : ℕ → JournalState → Option JournalFault → Type 0
IsFaultBefore bytes j (Some Closed) = j.closed ≡ true
IsFaultBefore bytes j (Some (Full end)) = (j.closed ≡ false) × LacksSpace j bytes × (end ≡ j.end)
IsFaultBefore bytes j (Some NotEmpty) = ⊥
IsFaultBefore bytes j (Some (Disk faults)) = ⊥
IsFaultBefore bytes j (Some (Damaged at)) = ⊥
IsFaultBefore bytes j None = (j.closed ≡ false) × HasSpace j bytes

-- A record goes behind the end of a journal that has space for it.
pub record WritesRecord {D : Type 0} (shows : D → DiskSeen) (bytes : List ℕ) (old new : JournalState)
    (disk disk_new : D) (r : Result (Unit {0}) JournalFault) : Type 0 where
  pub fits : IsOkOrDisk r × OnErr r (new ≡ broken old)
  pub longer : OnOk r (new ≡ longer (length bytes) old)
  pub added : OnOk r ((c : List ℕ) → (shows disk_new).reads c → Appended (shows disk).reads bytes c)
  pub any_moment : LeavesWithOrWithout old.limit (shows disk) (shows disk_new) bytes

-- what is seen of a kept machine
pub record Sight (M : Type 0) : Type 1 where
  pub machine : M
  pub journal : JournalState
  pub disk : DiskSeen
  pub faults : ℕ

abbrev pub sight : {M D : Type 0} → (D → DiskSeen) → (D → Seen) → KeptState M D → Sight M
sight shows counts k = record {
  machine = k.machine;
  journal = k.journal;
  disk = shows k.disk;
  faults = (counts k.disk).faults;
}

-- The faults of a record, in the order in which they are judged: what the journal won't write is never told
-- as a want of memory.
pub record IsJudged {M T : Type 0} (rules : Rules M) (bytes : List ℕ) (j now : JournalState)
    (r : Result T KeepFault) : Type 0 where
  pub closed : j.closed ≡ true → IsErrOf r (Journal Closed)
  pub full : j.closed ≡ false → LacksSpace j (length bytes) → IsErrOf r (Journal (Full j.end))
  pub memory : IsErrOf r NoMemory → rules.wants_memory bytes
  pub fits : (IsErrOf r NoMemory → ⊥) → j.closed ≡ false → HasSpace j (length bytes)
      → IsOkOrDiskFault r × OnErr r (now ≡ broken j)

-- A record is on the disk where the answer is Ok, and the machine has the memory for its step, which wasn't
-- taken yet.
pub record Notes {M D : Type 0} (rules : Rules M) (shows : D → DiskSeen) (bytes : List ℕ)
    (old new : KeptState M D) (r : Result (Unit {0}) KeepFault) : Type 0 where
  pub same : rules.is_same old.machine new.machine
  pub memory : OnOk r (rules.has_memory new.machine bytes)
  pub longer : OnOk r (new.journal ≡ longer (length bytes) old.journal)
  pub added : OnOk r ((c : List ℕ) → (shows new.disk).reads c → Appended (shows old.disk).reads bytes c)
  pub stays : OnStill r ((new.journal ≡ old.journal) × (new.disk ≡ old.disk))
  pub unbroken : OnErr r (new.journal.closed ≡ false → (new.journal ≡ old.journal) × (new.disk ≡ old.disk))
  pub any_moment : old.journal.closed ≡ false
      → LeavesWithOrWithout old.journal.limit (shows old.disk) (shows new.disk) bytes
  pub judged : IsJudged rules bytes old.journal new.journal r

abbrev pub kept_state : {M D : Type 0} → M → JournalState → D → KeptState M D
kept_state machine journal disk = record { machine = machine; journal = journal; disk = disk }

-- Where the answer is Ok the record is on the disk and its step was taken, and where it is a fault no step
-- was taken. A crash at any moment of the call leaves the records from before it, with this one or without.
pub record Keeps {M T : Type 0} (rules : Rules M) (bytes : List ℕ) (old new : Sight M)
    (r : Result T KeepFault) : Type 0 where
  pub step : OnOk r (rules.steps bytes old.machine new.machine)
  pub no_step : OnErr r (rules.is_same old.machine new.machine)
  pub added : OnOk r ((records : List (List ℕ)) → Holds records old.disk.reads
      → Holds (records ++ bytes ∷ []) new.disk.reads)
  pub longer : OnOk r (new.journal ≡ longer (length bytes) old.journal)
  pub any_moment : old.journal.closed ≡ false → (records : List (List ℕ)) → Holds records old.disk.reads
      → LeavesOnly old.disk new.disk (LeavesRecords old.journal.limit records bytes)
  pub judged : IsJudged rules bytes old.journal new.journal r
  pub counts : Counts old.faults new.faults r

-- What stands on the disk gives the machine, now and after a crash, and nothing of it is damaged.
pub record IsDurable {M : Type 0} (rules : Rules M) (k : Sight M) : Type 0 where
  pub stands : Stands rules k.machine k.disk.reads
  pub durable : Within k.disk.may_leave k.disk.reads
  pub undamaged : (c : List ℕ) → k.disk.reads c → IsUndamaged k.journal.limit 0 c

-- An input that has this record is kept before its step; one that has none is answered, and changes nothing.
abbrev pub KeepsInput : {M D T : Type 0} → Rules M → (D → DiskSeen) → (D → Seen) → Option (List ℕ)
    → (old new : KeptState M D) → Result T KeepFault → Type 0
KeepsInput rules shows counts (Some bytes) old new r =
    Keeps rules bytes (sight shows counts old) (sight shows counts new) r
KeepsInput rules shows counts None old new r = IsOk r × (new ≡ old)
