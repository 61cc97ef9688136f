-- The texts of faults.
use Rattle.std.specs.Prelude.{ℕ, List, codes}
use Rattle.input_reading.specs.declared.reading.InputFault.{InputFault}
use Rattle.input_reading.specs.declared.reading.InputFault.TheVariants.{Failed, TooLong, NoMemory}

abbrev pub input_fault_text : InputFault → List ℕ
input_fault_text Failed = codes "read fault"
input_fault_text TooLong = codes "input too long"
input_fault_text NoMemory = codes "out of memory"
