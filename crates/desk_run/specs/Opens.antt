-- The ledger in a desk's folder.
use Rattle.std.specs.Prelude.{◌≡◌, true, false, List, Option, Some, None, map}
use Rattle.node_journal.specs.Disk.{DiskSeen}
use Rattle.client_restart.specs.Kept.{StandsByNotes}
use Rattle.desk_entries.specs.Records.{entry_record}
use Rattle.desk_ledger.specs.Ledgers.{IsOfPair, LedgerState}
use Rattle.desk_outside.specs.Calls.{Adds, FolderCall, Looked, Opened}
use Rattle.desk_outside.specs.declared.folder.DeskFile.TheVariants.{Ledger}

-- From old to new the folder was asked for its ledger, and opened it; this is what stands on that disk.
pub record Opens {D : Type 0} (shows : D → DiskSeen) (old new : Option (List (FolderCall D)))
    (l : LedgerState D) : Type 0 where
  pub looked : Option (List (FolderCall D))
  pub look : Adds old looked (Looked Ledger (Some true))
  pub disk : D
  pub opened : Adds looked new (Opened Ledger (Some disk))
  pub pair : IsOfPair l.pair l.entries
  pub told : l.client.core.remarks ≡ map entry_record l.entries
  pub stands : StandsByNotes l.client.opening l.client.core (shows disk).reads

-- the folder's ledger, None where it was asked for one and has none
abbrev pub Finds : {D : Type 0} → (D → DiskSeen) → (old new : Option (List (FolderCall D)))
    → Option (LedgerState D) → Type 0
Finds shows old new None = Adds old new (Looked Ledger (Some false))
Finds shows old new (Some l) = Opens shows old new l
