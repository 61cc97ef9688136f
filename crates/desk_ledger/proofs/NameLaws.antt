-- Which names are entries.
use Rattle.std.proofs.Common.{◌≡◌, ◌==◌, ℕ, ◌<◌, ◌≤◌, ◌^◌, Bool, true, false, List, [], ◌∷◌, ◌++◌, length, Option, Some, None, refl, ◌∙◌, ap, arith, length-append}
use Rattle.std.specs.Prelude.{if◌then◌else◌, not, nat_le, ◌||◌, ◌&&◌, IfSome}
use Rattle.desk_texts.specs.Days.{IsDay}
use Rattle.desk_texts.specs.declared.day.Day.{Day}
use Rattle.std.specs.Int.{w128, to_be_bytes}
use Rattle.std.specs.List.{flat_map, list_all}
use Rattle.std.proofs.lemmas.Bool.{and_parts}
use Rattle.std.proofs.lemmas.Bool.Decides.{nat_tests}
use Rattle.std.proofs.lemmas.Slice.Eq.{bytes_eq-Decides}
use Rattle.client_restart.specs.declared.owned_box.OwnedBox.{OwnedBox}
use Rattle.desk_entries.specs.declared.entry.Entry.{Entry}
use Rattle.desk_entries.specs.declared.entry.Entry.TheVariants as entry
use Rattle.desk_entries.specs.declared.entry.NamedBoxes.{NamedBoxes}
use Rattle.desk_entries.specs.Desks.{is_retiring, retires_name}
use Rattle.desk_entries.specs.Entries.{AreAddresses, IsNamed}
use Rattle.desk_entries.specs.Names.{is_name, is_name_byte}
use Rattle.desk_entries.specs.Records.{IsEntry, named_record, until_record}
use Rattle.desk_entries.proofs.AddressLaws.{are_push, flat_size}
use Rattle.desk_ledger.specs.declared.fault.NameFault.{NameFault}
use Rattle.desk_ledger.specs.Tasks.{name_fault}

short_name : (text : List ℕ) → is_name text ≡ true → length text ≤ 32
unfolding is_name
short_name text h =
    let p = and_parts (not (length text == 0)) (nat_le (length text) 32 && list_all is_name_byte text) h in
    let few = (and_parts (nat_le (length text) 32) (list_all is_name_byte text) p.1).0 in
    grind (arith, nat_tests, few)

pub is_retiring_entry : (name : List ℕ) → is_name name ≡ true → IsEntry (entry.Retiring name)
is_retiring_entry name is = let short = short_name name is in record { formed = is; few = omega (arith, short) }

few_of_day : (until : Option Day) → length (until_record until) ≤ 4
few_of_day (Some d) = omega arith
few_of_day None = omega arith

pub is_closed_entry : (name : List ℕ) (day : Day) → is_name name ≡ true → IsDay day
    → IsEntry (entry.Closed (record { name = name; day = day }))
is_closed_entry name day is dated =
    let short = short_name name is in
    record { formed = record { name = is; day = dated }; few = omega (arith, short) }

pub is_named_entry : (n : NamedBoxes) → IsNamed n → IsEntry (entry.Named n)
is_named_entry n is =
    let short = short_name n.name is.name in
    let flat = flat_size n.addresses in
    let both = length-append (flat_map (to_be_bytes w128) n.addresses) n.name in
    let dated = length-append (until_record n.until) (named_record n) in
    let day = few_of_day n.until in
    record { formed = is; few = omega (arith, short, flat, both, dated, day, is.few) }

pub one_more_address : (addresses : List ℕ) (a : ℕ) → AreAddresses addresses → a < 2 ^ 128 → AreAddresses (addresses ++ a ∷ [])
one_more_address addresses a are is = are_push addresses a are is

-- ---- a name that is to be retired

or_true : (b : Bool) → (b || true) ≡ true
or_true true = refl
or_true false = refl

pub retiring_then : (entries : List Entry) (name : List ℕ) → is_retiring (entries ++ entry.Retiring name ∷ []) name ≡ true
retiring_then [] name = ap (λ (b : Bool). b || false) ((bytes_eq-Decides name name).1 refl)
retiring_then (e ∷ entries) name = ap (λ (b : Bool). retires_name name e || b) (retiring_then entries name) ∙ or_true (retires_name name e)

-- ---- a name that is taken

no_if : {A : Type 0} (b : Bool) (x : A) (other : Option A) → (if b then Some x else other) ≡ None → (b ≡ false) × (other ≡ None)
no_if true x other h = absurd (cc h)
no_if false x other h = (refl, h)

no_not : (b : Bool) → not b ≡ false → b ≡ true
no_not true h = refl
no_not false h = absurd (cc h)

counted : (n : ℕ) → ((n == 0) || not (nat_le n 64)) ≡ false → (1 ≤ n) × (n ≤ 64)
counted n h = (grind (arith, nat_tests, h), grind (arith, nat_tests, h))

pub taken_entry : (capacity : ℕ) (boxes : List OwnedBox) (entries : List Entry) (name addresses : List ℕ) (until : Option Day)
    → name_fault capacity boxes entries name addresses ≡ None → AreAddresses addresses → IfSome until IsDay
    → IsEntry (entry.Named (record { name = name; addresses = addresses; until = until }))
taken_entry capacity boxes entries name addresses until taken are day =
    let form = no_if {A = NameFault} _ _ _ taken in
    let used = no_if {A = NameFault} _ _ _ form.1 in
    let count = no_if {A = NameFault} _ _ _ used.1 in
    let many = counted (length addresses) count.0 in
    is_named_entry (record { name = name; addresses = addresses; until = until })
    (record { name = no_not (is_name name) form.0; some = many.0; few = many.1; addresses = are; until = day })
