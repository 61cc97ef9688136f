-- What is printed of a fault.
use Rattle.std.specs.Prelude.{ℕ, List, ◌++◌, codes, decimal}
use Rattle.desk_sheets.specs.declared.fault.SheetFault.{SheetFault}
use Rattle.desk_sheets.specs.declared.fault.SheetFault.TheVariants.{Earlier, Wrong, OtherKind, NoMemory}

abbrev pub fault_text : SheetFault → List ℕ
fault_text Earlier = codes "of an earlier version"
fault_text (Wrong line) = codes "bad line " ++ decimal line
fault_text OtherKind = codes "of the other kind"
fault_text NoMemory = codes "out of memory"
