-- Why a name isn't taken.
use Rattle.std.proofs.Common.{◌≡◌, ◌==◌, ◌||◌, nat_le, not, if◌then◌else◌, ℕ, Bool, true, false, List, Some, None, refl, length}
use Rattle.std.specs.Prelude.{is_some}
use Rattle.client_restart.specs.declared.owned_box.OwnedBox.{OwnedBox}
use Rattle.desk_entries.specs.declared.entry.Entry.{Entry}
use Rattle.desk_entries.specs.Desks.{are_new, named}
use Rattle.desk_entries.specs.Names.{is_name}
use Rattle.desk_ledger.specs.declared.fault.NameFault.TheVariants as fault
use Rattle.desk_ledger.specs.Tasks.{name_fault, room}

by_tests : (bad used wrong same fits : Bool) (left : ℕ)
    → (if bad then Some fault.Form else (if used then Some fault.Used else (if wrong then Some fault.Count else
    (if same then Some fault.SameAddress else (if fits then None else Some (fault.NoRoom left)))))) ≡ Some fault.Used
    → used ≡ true
by_tests true used wrong same fits left is = cc
by_tests false true wrong same fits left is = refl
by_tests false false true same fits left is = cc
by_tests false false false true fits left is = cc
by_tests false false false false true left is = cc
by_tests false false false false false left is = cc

-- a name that is refused as used is that of some boxes
pub used_name : (capacity : ℕ) (boxes : List OwnedBox) (entries : List Entry) (name addresses : List ℕ)
    → name_fault capacity boxes entries name addresses ≡ Some fault.Used → is_some (named entries name) ≡ true
used_name capacity boxes entries name addresses is =
    by_tests (not (is_name name)) (is_some (named entries name)) ((length addresses == 0) || not (nat_le (length addresses) 64))
    (not (are_new entries addresses)) (nat_le (length addresses) (room capacity boxes entries)) (room capacity boxes entries) is
