-- Where work stops, behind calls that left the clock as it was.
use Rattle.std.proofs.Common.{◌≡◌, ℕ, List, Option, Result, subst}
use Rattle.express_words.specs.Calls.{Call}
use Rattle.express_words.specs.Seen.{Seen}
use Rattle.node_journal.specs.Disk.{DiskSeen}
use Rattle.kept_machine.specs.Kept.{KeptState}
use Rattle.kept_ledger.specs.declared.machine.KeptLedger.{KeptLedger}
use Rattle.kept_ledger.specs.declared.task.Task.{Task}
use Rattle.desk_around.specs.declared.trouble.Trouble.{Trouble}
use Rattle.owner_work.specs.Works.{DoesBy, Goes, Stops, StopsBy}

pub does_since : {D : Type 0} (shows : D → DiskSeen) (counts : D → Seen) (t : Task)
    (old new : KeptState KeptLedger D) (result : Result (Unit {0}) Trouble) (a b : Option (List Call))
    (first early late : ℕ) → early ≡ first → DoesBy shows counts t old new result a b early late
    → DoesBy shows counts t old new result a b first late
does_since shows counts t old new result a b first early late same does =
    subst (λ (n : ℕ). DoesBy shows counts t old new result a b n late) same does

pub stops_by : {D : Type 0} (shows : D → DiskSeen) (counts : D → Seen) (t : Trouble)
    (old l new : KeptState KeptLedger D) (a mid b : Option (List Call)) (early late tasks : ℕ)
    → Goes shows counts old a tasks l mid → StopsBy shows counts t tasks l new mid b early late
    → Stops shows counts t old new a b early late
stops_by shows counts t old l new a mid b early late tasks goes by =
    record { tasks = tasks; l = l; mid = mid; goes = goes; by = by }
