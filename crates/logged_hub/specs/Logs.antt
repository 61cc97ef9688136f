-- What a call of the log does.
use Rattle.std.specs.Prelude.{◌≡◌, ◌<◌, ℕ, ◌+◌, List, length, Option, Some, None, Err}
use Rattle.node_journal.specs.Batches.{LacksSpaceForAll}
use Rattle.node_journal.specs.Journal.{JournalState, CountsDisk}
use Rattle.node_journal.specs.Records.{AllSized, opened}
use Rattle.node_journal.specs.declared.fault.JournalFault.{JournalFault}
use Rattle.node_journal.specs.declared.fault.JournalFault.TheVariants.{Closed, NotEmpty, Full, Disk, Damaged}
use Rattle.logged_hub.specs.declared.fault.LogFault.{LogFault}
use Rattle.logged_hub.specs.declared.fault.LogFault.TheVariants.{WrongSize, BatchFull, Journal}

-- these records and a closed gate behind them pass the room of a batch
abbrev pub PassesRoom : ℕ → List (List ℕ) → Type 0
PassesRoom room records = room < length (opened records) + 1

-- why a batch doesn't take these records
abbrev pub IsFaultOfBatch : (room : ℕ) → List (List ℕ) → LogFault → Type 0
IsFaultOfBatch room records WrongSize = AllSized records → ⊥
IsFaultOfBatch room records BatchFull = PassesRoom room records
IsFaultOfBatch room records (Journal why) = ⊥

-- why a journal doesn't take them, or doesn't say that it did
abbrev pub IsFaultOfJournal : JournalState → List (List ℕ) → JournalFault → Type 0
IsFaultOfJournal journal records (Full end) = LacksSpaceForAll journal records × (end ≡ journal.end)
IsFaultOfJournal journal records (Disk faults) = Unit {0}
IsFaultOfJournal journal records Closed = ⊥
IsFaultOfJournal journal records NotEmpty = ⊥
IsFaultOfJournal journal records (Damaged at) = ⊥

-- why the log of these records fails, for the first time
abbrev pub IsFaultOf : (room : ℕ) → JournalState → List (List ℕ) → LogFault → Type 0
IsFaultOf room journal records WrongSize = IsFaultOfBatch room records WrongSize
IsFaultOf room journal records BatchFull = IsFaultOfBatch room records BatchFull
IsFaultOf room journal records (Journal why) = IsFaultOfJournal journal records why

-- The disk's count of faults rose by one where the fault is the disk's, which tells it; else it stayed.
abbrev pub Counts : ℕ → ℕ → Option LogFault → Type 0
Counts before now None = now ≡ before
Counts before now (Some WrongSize) = now ≡ before
Counts before now (Some BatchFull) = now ≡ before
Counts before now (Some (Journal why)) = CountsDisk {T = ℕ} before now (Err why)
