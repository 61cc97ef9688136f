-- Connections and a clock, and the log beside them.
use Rattle.std.specs.Prelude.{◌≡◌, ℕ, true, false, List, ◌∷◌, ◌++◌, Option, Some, None, IsSome}
use Rattle.kept_machine.specs.Kept.{Holds}
use Rattle.many_words.specs.Events.{Event}
use Rattle.node_journal.specs.Batches.{BatchState, IsBeforeOrAll}
use Rattle.node_journal.specs.Disk.{DiskSeen}
use Rattle.node_journal.specs.Journal.{JournalState, IsInPlace}
use Rattle.node_journal.specs.Records.{IsUndamaged}
use Rattle.logged_hub.specs.Calls.{opening, written}
use Rattle.logged_hub.specs.declared.fault.LogFault.{LogFault}

-- The connections, the journal with its disk, the batch that was written last, why the log failed, if it did, the
-- records that the log held when it was opened, and all calls since.
pub record HubState (W D : Type 0) : Type 0 where
  pub wires : W
  pub journal : JournalState
  pub disk : D
  pub batch : BatchState
  pub fault : Option LogFault
  pub held : List (List ℕ)
  pub calls : List Event

-- what a hub tells: its log was opened, and then the calls since
abbrev pub told_of : {W D : Type 0} → HubState W D → Option (List Event)
told_of hub = Some (opening hub.held ∷ hub.calls)

-- the records of the log: those that it held, and those that the calls wrote
abbrev pub records_in : {W D : Type 0} → HubState W D → List (List ℕ)
records_in hub = hub.held ++ written hub.calls

-- the journal takes more, at its end on this disk
pub record IsReady (journal : JournalState) (disk : DiskSeen) : Type 0 where
  pub ready : journal.ready ≡ true
  pub still_open : journal.closed ≡ false
  pub in_place : IsInPlace journal disk

-- What a crash leaves: the records, or all of the others behind them, and nothing damaged.
abbrev pub LeavesWhole : ℕ → (records added : List (List ℕ)) → List ℕ → Type 0
LeavesWhole limit records added c = IsBeforeOrAll records added c × IsUndamaged limit 0 c

-- Until a call of the log fails, the disk has the records of the log, now and after a crash. From then on a crash
-- leaves them, with all of the batch that failed or with none.
pub record IsKept (shows : DiskSeen) (journal : JournalState) (batch records : List (List ℕ))
    (fault : Option LogFault) : Type 0 where
  pub ready : fault ≡ None → IsReady journal shows
  pub held : fault ≡ None → Holds records shows.reads
  pub failed : IsSome fault → (c : List ℕ) → shows.may_leave c → LeavesWhole journal.limit records batch c
