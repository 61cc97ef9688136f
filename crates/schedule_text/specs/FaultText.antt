-- The words that are printed of a text that isn't read.
use Rattle.std.specs.Prelude.{ℕ, List, ◌++◌, codes}
use Rattle.std.specs.Fmt.{decimal}
use Rattle.schedule_text.specs.declared.fault.ReadFault.{ReadFault}
use Rattle.schedule_text.specs.declared.fault.ReadFault.TheVariants.{BadLine, NoMemory}

abbrev pub fault_text : ReadFault → List ℕ
fault_text (BadLine line) = codes "bad line " ++ decimal line
fault_text NoMemory = codes "out of memory"
