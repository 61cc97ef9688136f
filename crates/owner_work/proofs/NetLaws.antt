-- What goes out on the net, one step behind another, and the net's faults.
use Rattle.std.proofs.Common.{◌≡◌, ℕ, List, Option, Result, Err, subst}
use Rattle.express_words.specs.Calls.{Call}
use Rattle.express_words.specs.Seen.{Seen}
use Rattle.node_journal.specs.Disk.{DiskSeen}
use Rattle.kept_machine.specs.Kept.{KeptState}
use Rattle.kept_ledger.specs.declared.machine.KeptLedger.{KeptLedger}
use Rattle.kept_ledger.specs.declared.working.Unworked.{Unworked}
use Rattle.kept_ledger.specs.Worked.{LedgerWorked}
use Rattle.desk_around.specs.declared.trouble.Trouble.{Trouble}
use Rattle.desk_around.specs.declared.trouble.Trouble.TheVariants as trouble
use Rattle.desk_around.specs.Chains.{goes}
use Rattle.desk_steps.specs.Net.{SendsOn, ledger}
use Rattle.owner_work.specs.Settling.{Reached}

-- ---- steps

pub sends_ledger : {D : Type 0} (shows : D → DiskSeen) (counts : D → Seen) (old new : KeptState KeptLedger D)
    (r : Result (Unit {0}) Unworked) (a b : Option (List Call)) → LedgerWorked shows counts old new r a b
    → SendsOn shows counts a b
sends_ledger shows counts old new r a b worked start s = goes a b s (ledger old new r worked)

-- ---- faults

pub reached_behind : {T : Type 0} (r : Result T Trouble) (old mid new : ℕ) → mid ≡ old → Reached r mid new
    → Reached r old new
reached_behind r old mid new e reached = subst (λ (n : ℕ). Reached r n new) e reached

-- the same of a call that gives something else
pub reached_err : (T U : Type 0) (t : Trouble) (old new : ℕ) → Reached {T = T} (Err t) old new
    → Reached {T = U} (Err t) old new
reached_err T U (trouble.Unreached server) old new r = tt
reached_err T U _ old new r = r
