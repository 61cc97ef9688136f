-- A server whose frames go to its journal.
use Rattle.std.specs.Prelude.{ℕ}
use Rattle.node_journal.specs.Disk.{DiskSeen}
use Rattle.kept_machine.specs.declared.fault.KeepFault.{KeepFault}
use Rattle.kept_machine.specs.Faults.{CountsFault}
use Rattle.node_restart.specs.Keeping.{Keeps, KeepsUpTo}
use Rattle.node_restart.specs.Kept.{KeptState}
use Rattle.node_serve.specs.Logs.{Log}

-- each frame is on the disk before its step
abbrev pub journal_log : {D : Type 0} → (D → DiskSeen) → Log (KeptState D) KeepFault
journal_log shows = record { core = λ kept. kept.core; takes = Keeps shows; stops = KeepsUpTo shows }

-- the disk's count of faults rises where a fault is its own, and stays else
abbrev pub rises : KeepFault → ℕ → ℕ → Type 0
rises fault before now = CountsFault before now fault
