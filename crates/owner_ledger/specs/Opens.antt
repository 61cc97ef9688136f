-- The ledger that a desk's folder has.
use Rattle.std.specs.Prelude.{true, false, List, Option, Some, None}
use Rattle.node_journal.specs.Disk.{DiskSeen}
use Rattle.desk_outside.specs.Calls.{Adds, FolderCall, Looked, Opened}
use Rattle.desk_outside.specs.declared.folder.DeskFile.TheVariants.{Ledger}
use Rattle.kept_machine.specs.Kept.{KeptState, Stands}
use Rattle.kept_ledger.specs.declared.machine.KeptLedger.{KeptLedger}
use Rattle.kept_ledger.specs.Machines.{ledger_rules}

-- The folder was asked for the ledger's file, and opened it; the ledger is the one that its records give.
pub record Opens {D : Type 0} (shows : D → DiskSeen) (old new : Option (List (FolderCall D)))
    (kept : KeptState KeptLedger D) : Type 0 where
  pub looked : Option (List (FolderCall D))
  pub look : Adds old looked (Looked Ledger (Some true))
  pub disk : D
  pub opened : Adds looked new (Opened Ledger (Some disk))
  pub stands : Stands ledger_rules kept.machine (shows disk).reads

-- or it was asked, and has none
abbrev pub Finds : {D : Type 0} → (D → DiskSeen) → (old new : Option (List (FolderCall D)))
    → Option (KeptState KeptLedger D) → Type 0
Finds shows old new None = Adds old new (Looked Ledger (Some false))
Finds shows old new (Some kept) = Opens shows old new kept
