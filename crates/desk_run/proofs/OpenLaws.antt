-- A ledger that is opened.
use Rattle.std.proofs.Common.{◌≡◌, List, Option, Some, true, map}
use Rattle.node_journal.specs.Disk.{DiskSeen}
use Rattle.client_restart.specs.Kept.{StandsByNotes}
use Rattle.desk_entries.specs.Records.{entry_record}
use Rattle.desk_ledger.specs.Ledgers.{IsOfPair, LedgerState}
use Rattle.desk_outside.specs.Calls.{Adds, FolderCall, Looked, Opened}
use Rattle.desk_outside.specs.declared.folder.DeskFile.TheVariants.{Ledger}
use Rattle.desk_run.specs.Opens.{Opens}

pub opens : {D : Type 0} (shows : D → DiskSeen) (old looked new : Option (List (FolderCall D))) (disk : D) (l : LedgerState D)
    → Adds old looked (Looked Ledger (Some true)) → Adds looked new (Opened Ledger (Some disk))
    → IsOfPair l.pair l.entries → l.client.core.remarks ≡ map entry_record l.entries
    → StandsByNotes l.client.opening l.client.core (shows disk).reads → Opens shows old new l
opens shows old looked new disk l look opening pair told stands = record {
  looked = looked;
  look = look;
  disk = disk;
  opened = opening;
  pair = pair;
  told = told;
  stands = stands;
}
