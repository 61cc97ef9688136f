-- What is said of the disk's count of faults, by how a run ends.
use Rattle.std.proofs.Common.{◌≡◌, ◌≢◌, ◌⊎◌, ℕ, List, Option, codes, arith}
use Rattle.kept_machine.specs.Faults.{CountsFault}
use Rattle.kept_machine.specs.declared.fault.KeepFault.{KeepFault}
use Rattle.node_serve.specs.KeptOpening.{IsFirstFault}
use Rattle.express_texts.specs.declared.fault.TextFault.{TextFault}
use Rattle.express_cli.specs.Ends.{DiskCounts, FaultMay, PrintsBy}
use Rattle.express_cli.specs.Keeping.{end_by, fault_line}
use Rattle.express_cli.specs.declared.ends.End.{End}
use Rattle.express_cli.specs.declared.ends.End.TheVariants as ends

-- where a fault of the disk isn't told, its count stayed
pub quiet_counts : (May : End → List ℕ → Type 0) (old new : Option (List ℕ)) (before now : ℕ) (end : End) (d e : ℕ)
    → ((text : List ℕ) → May ends.DiskFault text → ⊥) → PrintsBy May old new before now end → e ≡ d → DiskCounts end d e
quiet_counts May old new before now end d e never h same = grind arith

-- a fault of a text is none of the disk
pub text_fault : (f : TextFault) (text : List ℕ) → FaultMay f ends.DiskFault text → ⊥
text_fault f text may = grind arith

-- an end that was told, or was not since the sink failed
pub told_counts : (told end : End) (before now : ℕ) → (end ≡ told) ⊎ (end ≡ ends.WriteFault)
    → DiskCounts told before now → DiskCounts end before now
told_counts told end before now only h = grind arith

-- likewise of a line
pub line_counts : (told end : End) (before now : ℕ) → (end ≡ told) ⊎ ((end ≡ ends.OutOfMemory) ⊎ (end ≡ ends.WriteFault))
    → now ≡ before → DiskCounts told before now → DiskCounts end before now
line_counts told end before now only same h = grind arith

-- the disk's count by a fault is that of the end by it
pub fault_counts : (fault : KeepFault) (before now : ℕ) → IsFirstFault fault → CountsFault before now fault
    → DiskCounts (end_by fault) before now
fault_counts fault before now first h = grind arith

-- and stays where the fault isn't told as the disk's
pub unfailed : (fault : KeepFault) (before now : ℕ) → end_by fault ≢ ends.DiskFault → CountsFault before now fault → now ≡ before
unfailed fault before now other h = grind arith

-- what is told of a fault of the disk is its line
pub disk_line : (fault : KeepFault) → IsFirstFault fault → end_by fault ≡ ends.DiskFault → codes "disk fault\n" ≡ fault_line fault
disk_line fault first is = grind arith
