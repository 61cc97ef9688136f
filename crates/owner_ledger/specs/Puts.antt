-- A ledger that is made in a file of its own, and put in place.
use Rattle.std.specs.Prelude.{◌≡◌, ℕ, false, List, Option}
use Rattle.express_words.specs.Seen.{Seen}
use Rattle.node_journal.specs.Disk.{DiskSeen}
use Rattle.desk_outside.specs.Calls.{Adds, FolderCall, Placed}
use Rattle.desk_outside.specs.declared.folder.DeskFile.TheVariants.{Ledger, NextLedger}
use Rattle.kept_machine.specs.Keeps.{IsDurable, sight}
use Rattle.kept_machine.specs.Kept.{KeptState}
use Rattle.kept_ledger.specs.declared.follow.Keeping.{Keeping}
use Rattle.kept_ledger.specs.declared.machine.KeptLedger.{KeptLedger}
use Rattle.kept_ledger.specs.Follow.{kept_notes}
use Rattle.kept_ledger.specs.Ledgers.{LedgerState, ledger_after}
use Rattle.kept_ledger.specs.Machines.{ledger_rules}
use Rattle.desk_steps.specs.Files.{MakesFile}

-- The next ledger's file was made anew, this ledger stands in it on the disk, and it was put in place.
pub record PutsLedger {D : Type 0} (shows : D → DiskSeen) (counts : D → Seen) (ledger : LedgerState)
    (old new : Option (List (FolderCall D))) : Type 0 where
  pub disk : D
  pub mid : Option (List (FolderCall D))
  pub made : MakesFile NextLedger disk old mid
  pub next : KeptState KeptLedger D
  pub is : next.machine.ledger.state ≡ ledger
  pub durable : IsDurable ledger_rules (sight shows counts next)
  pub placed : Adds mid new (Placed NextLedger Ledger false)

-- The ledger that goes on behind this one, with requests from a serial on: its pair and seed are the same, and
-- it has what the other kept for it.
abbrev pub follower : Keeping → ℕ → LedgerState → LedgerState
follower keeping first s =
    ledger_after (record { pair = s.pair; seed = s.seed; first_serial = first }) (kept_notes keeping s)
