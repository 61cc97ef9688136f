-- The words that are printed of a text that isn't read.
use Rattle.std.specs.Prelude.{ℕ, List, ◌++◌, codes}
use Rattle.std.specs.Fmt.{decimal}
use Rattle.express_texts.specs.declared.fault.TextFault.{TextFault}
use Rattle.express_texts.specs.declared.fault.TextFault.TheVariants.{Wrong, WrongKey, NoMemory}

abbrev pub fault_text : TextFault → List ℕ
fault_text (Wrong line) = codes "bad line " ++ decimal line
fault_text (WrongKey key) = codes "bad settings " ++ key
fault_text NoMemory = codes "out of memory"
