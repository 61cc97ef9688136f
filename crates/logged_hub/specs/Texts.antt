-- The texts of faults.
use Rattle.std.specs.Prelude.{ℕ, List, codes}
use Rattle.node_journal.specs.Texts as journal
use Rattle.logged_hub.specs.declared.fault.LogFault.{LogFault}
use Rattle.logged_hub.specs.declared.fault.LogFault.TheVariants.{WrongSize, BatchFull, Journal}

abbrev pub fault_text : LogFault → List ℕ
fault_text WrongSize = codes "record of a wrong size"
fault_text BatchFull = codes "batch full"
fault_text (Journal fault) = journal.fault_text fault
