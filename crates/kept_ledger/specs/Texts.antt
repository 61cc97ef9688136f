-- The texts of faults.
use Rattle.std.specs.Prelude.{ℕ, List, ◌++◌, codes}
use Rattle.std.specs.Fmt.{decimal}
use Rattle.kept_ledger.specs.declared.fault.NameFault.{NameFault}
use Rattle.kept_ledger.specs.declared.fault.NameFault.TheVariants.{Form, Used, Count, SameAddress, NoRoom}

abbrev pub name_text : NameFault → List ℕ
name_text Form = codes "a name is 1 to 32 lower-case letters, digits and -"
name_text Used = codes "the name is used already"
name_text Count = codes "1 to 64 boxes have one name"
name_text SameAddress = codes "an address was drawn twice"
name_text (NoRoom left) = codes "no room for so many boxes: " ++ (decimal left ++ codes " are left")
