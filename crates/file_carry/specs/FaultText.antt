-- The words that are printed of a box that is missing.
use Rattle.std.specs.Prelude.{ℕ, List, ◌++◌, codes}
use Rattle.std.specs.Fmt.{decimal}
use Rattle.file_carry.specs.declared.joiner.Missing.{Missing}

abbrev pub fault_text : Missing → List ℕ
fault_text missing = codes "box " ++ (decimal missing.0 ++ codes " has no part of the file")
