-- Which values are entries.
use Rattle.std.proofs.Common.{◌≡◌, ℕ, ◌<◌, ◌^◌, Bool, true, false, List, [], ◌∷◌, ◌++◌, Some, None, refl, sym, ap, subst, arith}
use Rattle.std.specs.Prelude.{if◌then◌else◌}
use Rattle.std.specs.Option.{option_to_list}
use Rattle.desk_entries.specs.declared.entry.Denial.{Denial}
use Rattle.desk_entries.specs.declared.entry.Entry.{Entry}
use Rattle.desk_entries.specs.declared.entry.Entry.TheVariants as entry
use Rattle.desk_entries.specs.declared.entry.Held.{Held}
use Rattle.desk_entries.specs.declared.entry.Held.TheVariants.{Nothing, Letter, Met}
use Rattle.desk_entries.specs.declared.entry.Reading.{Reading}
use Rattle.desk_entries.specs.Forgetting.{kept, staying}
use Rattle.desk_entries.specs.Records.{AreEntries, IsEntry}
use Rattle.desk_ledger.specs.declared.pair.Pair.{Pair}
use Rattle.desk_ledger.specs.Ledgers.{IsOfPair}
use Rattle.desk_ledger.specs.Sizes.{IsSmall}

-- ---- what outcomes leave

pub is_registered : (serial address : ℕ) → serial < 2 ^ 32 → address < 2 ^ 128 → IsEntry (entry.Registered (record { serial = serial; address = address }))
is_registered serial address s a = record { formed = (s, a); few = omega arith }

pub is_refused : (serial address : ℕ) (denial : Denial) → serial < 2 ^ 32 → address < 2 ^ 128
    → IsEntry (entry.Refused (record { serial = serial; address = address; denial = denial }))
is_refused serial address denial s a = record { formed = (s, a); few = omega arith }

pub is_read : (r : Reading) → r.serial < 2 ^ 32 → r.registered < 2 ^ 32 → r.seconds < 2 ^ 64 → IsSmall r.held → IsEntry (entry.Read r)
is_read r s g t small = by_held r.held refl small
  where
    by_held : (h : Held) → r.held ≡ h → IsSmall h → IsEntry (entry.Read r)
    by_held Nothing is small =
        let e : record r { held = Nothing } ≡ r = ap (λ (x : Held). record r { held = x }) (sym is) in
        subst (λ (x : Reading). IsEntry (entry.Read x)) e (record { formed = record { serial = s; registered = g; seconds = t; held = tt }; few = omega arith })
    by_held (Letter id text) is small =
        let e : record r { held = Letter id text } ≡ r = ap (λ (x : Held). record r { held = x }) (sym is) in
        subst (λ (x : Reading). IsEntry (entry.Read x)) e
        (record { formed = record { serial = s; registered = g; seconds = t; held = small.0 }; few = omega (arith, small.1) })
    by_held Met is small =
        let e : record r { held = Met } ≡ r = ap (λ (x : Held). record r { held = x }) (sym is) in
        subst (λ (x : Reading). IsEntry (entry.Read x)) e (record { formed = record { serial = s; registered = g; seconds = t; held = tt }; few = omega arith })

-- ---- what stays

stays_entry : (e : Entry) → IsEntry e → AreEntries (option_to_list (staying e))
stays_entry (entry.Pair text) is = (is, tt)
stays_entry (entry.Named n) is = (is, tt)
stays_entry (entry.Registered b) is = (is, tt)
stays_entry (entry.Refused d) is = (is, tt)
stays_entry (entry.Read r) is = by_last r.last
  where
    by_last : (b : Bool) → AreEntries (option_to_list (if b then Some (entry.Read (record r { held = Nothing })) else None))
    by_last true =
        (is_read (record r { held = Nothing }) is.formed.serial is.formed.registered is.formed.seconds tt, tt)
    by_last false = tt
stays_entry (entry.Retiring name) is = (is, tt)
stays_entry (entry.Shown count) is = tt
stays_entry (entry.Written count) is = tt
stays_entry (entry.Closed c) is = (is, tt)

are_append : (xs ys : List Entry) → AreEntries xs → AreEntries ys → AreEntries (xs ++ ys)
are_append [] ys ax ay = ay
are_append (x ∷ xs) ys ax ay = (ax.0, are_append xs ys ax.1 ay)

pub are_kept : (entries : List Entry) → AreEntries entries → AreEntries (kept entries)
are_kept [] are = tt
are_kept (e ∷ entries) are = are_append (option_to_list (staying e)) (kept entries) (stays_entry e are.0) (are_kept entries are.1)

pub pair_kept : (p : Pair) (entries : List Entry) → IsOfPair p entries → IsOfPair p (kept entries)
pair_kept p [] is = absurd is
pair_kept p (entry.Pair text ∷ entries) is = is
pair_kept p (entry.Named n ∷ entries) is = absurd is
pair_kept p (entry.Registered b ∷ entries) is = absurd is
pair_kept p (entry.Refused d ∷ entries) is = absurd is
pair_kept p (entry.Read r ∷ entries) is = absurd is
pair_kept p (entry.Retiring name ∷ entries) is = absurd is
pair_kept p (entry.Shown count ∷ entries) is = absurd is
pair_kept p (entry.Written count ∷ entries) is = absurd is
pair_kept p (entry.Closed c ∷ entries) is = absurd is
