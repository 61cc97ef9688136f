-- The texts of faults; where a refusal says the same it has the same text.
use Rattle.std.specs.Prelude.{ℕ, List, ◌++◌, codes}
use Rattle.std.specs.Fmt.{decimal}
use Rattle.frame_rules.specs.declared.fault.FrameFault.{FrameFault}
use Rattle.frame_rules.specs.declared.fault.FrameFault.TheVariants.{Short, Malformed, Version}

abbrev pub fault_text : FrameFault → List ℕ
fault_text Short = codes "short"
fault_text (Malformed place) = codes "malformed " ++ decimal place
fault_text (Version version) = codes "version " ++ decimal version
