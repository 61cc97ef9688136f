-- The texts of faults.
use Rattle.std.specs.Prelude.{ℕ, List, ◌++◌, codes}
use Rattle.std.specs.Fmt.{decimal}
use Rattle.node_journal.specs.declared.fault.JournalFault.{JournalFault}
use Rattle.node_journal.specs.declared.fault.JournalFault.TheVariants.{Closed, NotEmpty, Full, Disk, Damaged}

abbrev pub fault_text : JournalFault → List ℕ
fault_text Closed = codes "journal closed"
fault_text NotEmpty = codes "journal not empty"
fault_text (Full end) = codes "journal full"
fault_text (Disk faults) = codes "disk fault"
fault_text (Damaged at) = codes "journal damaged " ++ decimal at

abbrev pub batch_full_text : List ℕ
batch_full_text = codes "batch full"
