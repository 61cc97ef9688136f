-- The texts of faults.
use Rattle.std.specs.Prelude.{ℕ, List, ◌++◌, codes}
use Rattle.std.specs.Fmt.{decimal}
use Rattle.node_journal.specs.Texts as journal
use Rattle.kept_machine.specs.declared.fault.KeepFault.{KeepFault}
use Rattle.kept_machine.specs.declared.fault.KeepFault.TheVariants.{Journal, NoMemory, Foreign}

abbrev pub fault_text : KeepFault → List ℕ
fault_text (Journal fault) = journal.fault_text fault
fault_text NoMemory = codes "out of memory"
fault_text (Foreign number) = codes "journal foreign " ++ decimal number
