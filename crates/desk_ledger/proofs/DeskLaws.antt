-- A desk with one entry more.
use Rattle.std.proofs.Common.{◌≡◌, ℕ, List, [], ◌∷◌, ◌++◌, map, sym, ◌∙◌, ap, subst, Result, Ok, Err}
use Rattle.std.specs.Prelude.{OnOk}
use Rattle.desk_entries.specs.declared.entry.Entry.{Entry}
use Rattle.desk_entries.specs.declared.entry.Entry.TheVariants as entry
use Rattle.desk_entries.specs.Records.{AreEntries, IsEntry, entry_record}
use Rattle.desk_entries.proofs.EntryLaws.{are_push, records_push}
use Rattle.desk_ledger.specs.declared.fault.OpenFault.{OpenFault}
use Rattle.desk_ledger.specs.declared.pair.Pair.{Pair}
use Rattle.desk_ledger.specs.Ledgers.{IsDesk, IsOfPair}

of_pair_push : (p : Pair) (entries : List Entry) (e : Entry) → IsOfPair p entries → IsOfPair p (entries ++ e ∷ [])
of_pair_push p [] e is = absurd is
of_pair_push p (entry.Pair text ∷ entries) e is = is
of_pair_push p (entry.Named n ∷ entries) e is = absurd is
of_pair_push p (entry.Registered b ∷ entries) e is = absurd is
of_pair_push p (entry.Refused d ∷ entries) e is = absurd is
of_pair_push p (entry.Read r ∷ entries) e is = absurd is
of_pair_push p (entry.Retiring name ∷ entries) e is = absurd is
of_pair_push p (entry.Shown count ∷ entries) e is = absurd is
of_pair_push p (entry.Written count ∷ entries) e is = absurd is
of_pair_push p (entry.Closed c ∷ entries) e is = absurd is

pub desk_push : (p : Pair) (entries : List Entry) (remarks now : List (List ℕ)) (e : Entry) → IsEntry e → IsDesk p entries remarks → now ≡ remarks ++ entry_record e ∷ [] → IsDesk p (entries ++ e ∷ []) now
desk_push p entries remarks now e is desk more = record {
  are = are_push entries e desk.are is;
  told = more ∙ ap (λ (l : List (List ℕ)). l ++ entry_record e ∷ []) desk.told ∙ sym (records_push entries e);
  pair = of_pair_push p entries e desk.pair;
}

pub entries_push : (entries now : List Entry) (e : Entry) (remark : List ℕ) → now ≡ entries ++ e ∷ [] → AreEntries entries → IsEntry e → remark ≡ entry_record e
    → AreEntries now × (map entry_record now ≡ map entry_record entries ++ remark ∷ [])
entries_push entries now e remark more are is said = (
  subst (λ (l : List Entry). AreEntries l) (sym more) (are_push entries e are is),
  ap (map entry_record) more ∙ records_push entries e ∙ ap (λ (l : List ℕ). map entry_record entries ++ l ∷ []) (sym said),
)

pub if_pushed : (r : Result (Unit {0}) OpenFault) (entries now : List Entry) (e : Entry) → OnOk r (now ≡ entries ++ e ∷ []) → AreEntries entries → IsEntry e
    → OnOk r (AreEntries now)
if_pushed (Ok done) entries now e more are is = subst (λ (l : List Entry). AreEntries l) (sym more) (are_push entries e are is)
if_pushed (Err fault) entries now e more are is = tt
