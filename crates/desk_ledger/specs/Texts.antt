-- The texts of faults.
use Rattle.std.specs.Prelude.{ℕ, List, ◌++◌, codes}
use Rattle.std.specs.Fmt.{decimal}
use Rattle.kept_machine.specs.Texts as keep
use Rattle.desk_ledger.specs.declared.fault.ForgetFault.{ForgetFault}
use Rattle.desk_ledger.specs.declared.fault.ForgetFault.TheVariants as forget
use Rattle.desk_ledger.specs.declared.fault.NameFault.{NameFault}
use Rattle.desk_ledger.specs.declared.fault.NameFault.TheVariants as name
use Rattle.desk_ledger.specs.declared.fault.OpenFault.{OpenFault}
use Rattle.desk_ledger.specs.declared.fault.OpenFault.TheVariants as open_fault

abbrev pub open_text : OpenFault → List ℕ
open_text (open_fault.BadLine line) = codes "bad line " ++ decimal line
open_text open_fault.NoPairFile = codes "not a pair file"
open_text open_fault.TooLong = codes "the pair file is too long"
open_text (open_fault.Keep fault) = keep.fault_text fault
open_text open_fault.NoPair = codes "the ledger isn't whole"
open_text (open_fault.NoEntry number) = codes "ledger foreign " ++ decimal number

abbrev pub name_text : NameFault → List ℕ
name_text name.Form = codes "a name is 1 to 32 lower-case letters, digits and -"
name_text name.Used = codes "the name is used already"
name_text name.Count = codes "1 to 64 boxes have one name"
name_text name.SameAddress = codes "an address was drawn twice"
name_text (name.NoRoom left) = codes "no room for so many boxes: " ++ (decimal left ++ codes " are left")

abbrev pub forget_text : ForgetFault → List ℕ
forget_text forget.Busy = codes "a request is under way"
forget_text forget.Spent = codes "all serials are spent"
forget_text forget.Unseen = codes "a letter wasn't seen"
forget_text forget.NoRoom = codes "no room for the boxes"
forget_text (forget.Keep fault) = keep.fault_text fault
