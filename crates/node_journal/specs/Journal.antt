-- What a journal knows of its disk.
use Rattle.std.specs.Prelude.{◌≡◌, ℕ, ◌+◌, ◌-◌, ◌^◌, ◌<◌, ◌≤◌, min, nat_lt, ◌||◌, Bool, true, List, Result}
use Rattle.std.specs.Prelude.{Ok, Err, IsErrOf}
use Rattle.node_journal.specs.Disk.{DiskSeen, LeavesOnly, Within}
use Rattle.node_journal.specs.Records.{IsBehind, EndsAt, LeavesBeforeOrAfter}
use Rattle.node_journal.specs.declared.fault.JournalFault.{JournalFault}
use Rattle.node_journal.specs.declared.fault.JournalFault.TheVariants.{Closed, NotEmpty, Full, Disk, Damaged}

-- Where the next record begins, and the limit; whether it was created, or read to the end of at least one
-- record; and whether a call answered Disk.
pub record JournalState : Type 0 where
  pub end : ℕ
  pub limit : ℕ
  pub ready : Bool
  pub closed : Bool

-- The disk reads as the journal left it: whole records up to the journal's end, and once it is ready a closed
-- gate there, within the limit. A crash now leaves what a read gives.
pub record IsInPlace (journal : JournalState) (disk : DiskSeen) : Type 0 where
  pub behind : (c : List ℕ) → disk.reads c → IsBehind journal.end c
  pub at_rest : journal.ready ≡ true → (c : List ℕ) → disk.reads c → EndsAt journal.end c
  pub fits : journal.ready ≡ true → journal.end + 1 ≤ journal.limit
  pub durable : Within disk.may_leave disk.reads

-- The disk's count of faults rose by one, up to the end of a 64-bit counter, where the answer is Disk,
-- which tells it; else it stayed.
abbrev pub CountsDisk : {T : Type 0} → ℕ → ℕ → Result T JournalFault → Type 0
CountsDisk before now (Ok value) = now ≡ before
CountsDisk before now (Err Closed) = now ≡ before
CountsDisk before now (Err NotEmpty) = now ≡ before
CountsDisk before now (Err (Full end)) = now ≡ before
CountsDisk before now (Err (Disk faults)) = (faults ≡ now) × (now ≡ min (before + 1) (2 ^ 64 - 1))
CountsDisk before now (Err (Damaged at)) = now ≡ before

-- It went well, or a call on the disk failed.
abbrev pub IsOkOrDisk : {T : Type 0} → Result T JournalFault → Type 0
IsOkOrDisk (Ok value) = Unit {0}
IsOkOrDisk (Err Closed) = ⊥
IsOkOrDisk (Err NotEmpty) = ⊥
IsOkOrDisk (Err (Full end)) = ⊥
IsOkOrDisk (Err (Disk faults)) = Unit {0}
IsOkOrDisk (Err (Damaged at)) = ⊥

-- It went well, a call on the disk failed, or what stands on the disk is damaged.
abbrev pub IsOkDiskOrDamaged : {T : Type 0} → Result T JournalFault → Type 0
IsOkDiskOrDamaged (Ok value) = Unit {0}
IsOkDiskOrDamaged (Err Closed) = ⊥
IsOkDiskOrDamaged (Err NotEmpty) = ⊥
IsOkDiskOrDamaged (Err (Full end)) = ⊥
IsOkDiskOrDamaged (Err (Disk faults)) = Unit {0}
IsOkDiskOrDamaged (Err (Damaged at)) = Unit {0}

-- P of the byte, where the answer is Damaged
abbrev pub IfDamaged : {T : Type 0} → Result T JournalFault → (ℕ → Type 0) → Type 0
IfDamaged result P = (n : ℕ) → IsErrOf result (Damaged n) → P n

-- the answer is this fault, and journal and disk stay as they were
abbrev pub OnlyAnswers : {T D : Type 0} → Result T JournalFault → JournalFault → (old new : JournalState)
    → (disk disk_new : D) → Type 0
OnlyAnswers result fault old new disk disk_new = (result ≡ Err fault) × (new ≡ old) × (disk_new ≡ disk)

-- it is Full, at the journal's end
abbrev pub OnlyAnswersFull : {T D : Type 0} → Result T JournalFault → (old new : JournalState)
    → (disk disk_new : D) → Type 0
OnlyAnswersFull result old new disk disk_new = OnlyAnswers result (Full old.end) old new disk disk_new

-- A crash at any moment from old to new leaves the records from before, with this one or without, and nothing
-- that a journal under this limit would find damaged.
abbrev pub LeavesWithOrWithout : ℕ → (old new : DiskSeen) → List ℕ → Type 0
LeavesWithOrWithout limit old new bytes = LeavesOnly old new (LeavesBeforeOrAfter limit old.reads bytes)

-- after a call that passed a record of so many bytes, appended or read
abbrev pub longer : ℕ → JournalState → JournalState
longer bytes j = record { end = j.end + 5 + bytes; limit = j.limit; ready = j.ready; closed = j.closed }

-- after a call that found no record more
abbrev pub at_end : JournalState → JournalState
at_end j = record { end = j.end; limit = j.limit; ready = j.ready || nat_lt 0 j.end; closed = j.closed }

-- after a call that answered Disk
abbrev pub broken : JournalState → JournalState
broken j = record { end = j.end; limit = j.limit; ready = j.ready; closed = true }

-- a record of so many bytes and a closed gate behind it pass the limit
abbrev pub Passes : (end bytes limit : ℕ) → Type 0
Passes end bytes limit = limit < end + 5 + bytes + 1

-- it passes the limit of this journal
abbrev pub LacksSpace : JournalState → ℕ → Type 0
LacksSpace j bytes = Passes j.end bytes j.limit

-- it is within the limit, with the closed gate behind it
abbrev pub HasSpace : JournalState → ℕ → Type 0
HasSpace j bytes = j.end + 5 + bytes + 1 ≤ j.limit
