-- The texts of faults, as a refusal has them.
use Rattle.std.specs.Prelude.{ℕ, List, ◌++◌, codes}
use Rattle.std.specs.Fmt.{decimal}
use Rattle.box_registry.specs.declared.fault.RegFault.{RegFault}
use Rattle.box_registry.specs.declared.fault.RegFault.TheVariants.{Taken, Full}

abbrev pub fault_text : RegFault → List ℕ
fault_text (Taken box_number) = codes "taken " ++ decimal box_number
fault_text (Full limit) = codes "full " ++ decimal limit
