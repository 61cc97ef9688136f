-- What a call does that notes an entry.
use Rattle.std.specs.Prelude.{◌≡◌, ◌⊎◌, [], ◌∷◌, ◌++◌, Result, IsErrOf, OnOk, OnErr}
use Rattle.express_words.specs.Seen.{Seen}
use Rattle.node_journal.specs.Disk.{DiskSeen}
use Rattle.kept_machine.specs.declared.fault.KeepFault.{KeepFault}
use Rattle.kept_machine.specs.declared.fault.KeepFault.TheVariants.{NoMemory}
use Rattle.client_restart.specs.Keeps.{KeepsNote, sight}
use Rattle.client_restart.specs.Notes.{Noted, Remark}
use Rattle.desk_entries.specs.declared.entry.Entry.{Entry}
use Rattle.desk_entries.specs.Records.{entry_record}
use Rattle.desk_ledger.specs.Ledgers.{LedgerState}

-- the ledger's client keeps this note
abbrev pub LedgerKeeps : {D T : Type 0} → (D → DiskSeen) → (D → Seen) → Noted → (old new : LedgerState D)
    → Result T KeepFault → Type 0
LedgerKeeps shows counts note old new r =
    KeepsNote note (sight shows counts old.client) (sight shows counts new.client) r

-- Where it answers Ok the entry is on the disk, and stands behind the others; where it answers a fault there
-- is no entry more. For want of memory it may do nothing at all.
pub record Notes {D T : Type 0} (shows : D → DiskSeen) (counts : D → Seen) (e : Entry)
    (old new : LedgerState D) (r : Result T KeepFault) : Type 0 where
  pub added : OnOk r (new.entries ≡ old.entries ++ e ∷ [])
  pub none_added : OnErr r (new.entries ≡ old.entries)
  pub pair : new.pair ≡ old.pair
  pub keeps : (IsErrOf r NoMemory × (new ≡ old))
      ⊎ LedgerKeeps shows counts (Remark (entry_record e)) old new r
