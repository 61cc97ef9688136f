-- Records that are appended together: a crash leaves all of them or none.
use Rattle.std.specs.Prelude.{◌≡◌, ◌⊎◌, ℕ, ◌≤◌, ◌<◌, ◌+◌, List, [], ◌∷◌, ◌++◌, length, take}
use Rattle.node_journal.specs.Disk.{DiskSeen, LeavesOnly}
use Rattle.node_journal.specs.Journal.{JournalState}
use Rattle.node_journal.specs.Records.{content, opened, AllSized, EndsAt, IsUndamaged}

-- The records, and how many bytes a batch has for their gates, lengths and bytes, with a gate behind them.
pub record BatchState : Type 0 where
  pub records : List (List ℕ)
  pub room : ℕ

-- one record of so many bytes more fits
abbrev pub HasRoom : BatchState → ℕ → Type 0
HasRoom batch bytes = length (opened batch.records) + 5 + bytes + 1 ≤ batch.room

abbrev pub LacksRoom : BatchState → ℕ → Type 0
LacksRoom batch bytes = batch.room < length (opened batch.records) + 5 + bytes + 1

-- a batch with one record more
abbrev pub with_record : List ℕ → BatchState → BatchState
with_record bytes batch = record { records = batch.records ++ bytes ∷ []; room = batch.room }

-- These bytes are the records, each behind an open gate, and a closed gate.
pub record IsSpelled (records : List (List ℕ)) (bytes : List ℕ) : Type 0 where
  pub sized : AllSized records
  pub split : bytes ≡ opened records ++ 0 ∷ []

-- These bytes are written behind a closed gate: with that gate opened they are the records, and a closed
-- gate.
abbrev pub Spells : List (List ℕ) → List ℕ → Type 0
Spells added bytes = 1 ∷ bytes ≡ opened added ++ 0 ∷ []

-- the content stands for the records of one that was read before, and all of these
abbrev pub AppendedAll : (List ℕ → Type 0) → List (List ℕ) → List ℕ → Type 0
AppendedAll reads added bytes = (d : List ℕ) × reads d × (content bytes ≡ content d ++ added)

-- Whole records up to byte `end` and a closed gate, with the records of one content that was read before;
-- or all of these behind them, and their end.
abbrev pub RestsBeforeOrAll : (List ℕ → Type 0) → ℕ → List (List ℕ) → List ℕ → Type 0
RestsBeforeOrAll reads end added bytes = (d : List ℕ) × reads d
    × ((EndsAt end bytes × (content bytes ≡ content d))
    ⊎ (EndsAt (end + length (opened added)) bytes × (content bytes ≡ content d ++ added)))

-- the content stands for these records, or for them and all of the others
abbrev pub IsBeforeOrAll : (records added : List (List ℕ)) → List ℕ → Type 0
IsBeforeOrAll records added bytes = (content bytes ≡ records) ⊎ (content bytes ≡ records ++ added)

-- The content is undamaged, and stands for the records of one that was read before, or for them and all of
-- these.
abbrev pub LeavesBeforeOrAll : ℕ → (List ℕ → Type 0) → List (List ℕ) → List ℕ → Type 0
LeavesBeforeOrAll limit reads added bytes =
    (d : List ℕ) × reads d × IsBeforeOrAll (content d) added bytes × IsUndamaged limit 0 bytes

-- A crash at any moment from old to new leaves the records from before, with all of these or with none, and
-- nothing that a journal under this limit would find damaged.
abbrev pub LeavesAllOrNone : ℕ → (old new : DiskSeen) → List (List ℕ) → Type 0
LeavesAllOrNone limit old new added = LeavesOnly old new (LeavesBeforeOrAll limit old.reads added)

-- after a call that appended all of these
abbrev pub longer_by_all : List (List ℕ) → JournalState → JournalState
longer_by_all added j =
    record { end = j.end + length (opened added); limit = j.limit; ready = j.ready; closed = j.closed }

-- these and a closed gate behind them pass the limit of this journal
abbrev pub LacksSpaceForAll : JournalState → List (List ℕ) → Type 0
LacksSpaceForAll j added = j.limit < j.end + length (opened added) + 1

-- they are within the limit, with the closed gate behind them
abbrev pub HasSpaceForAll : JournalState → List (List ℕ) → Type 0
HasSpaceForAll j added = j.end + length (opened added) + 1 ≤ j.limit
