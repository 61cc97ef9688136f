-- The letters of a desk grow at their end, and no two of them have one id.
use Rattle.std.proofs.Common.{◌≡◌, ◌==◌, ℕ, Bool, true, false, List, [], ◌∷◌, ◌++◌, refl, sym, subst, arith}
use Rattle.std.specs.Prelude.{if◌then◌else◌}
use Rattle.std.specs.List.{AllPairs, fold, list_any}
use Rattle.std.proofs.lemmas.Bool.Decides.{nat_tests}
use Rattle.std.proofs.lemmas.List.Folds.{list_any_at}
use Rattle.std.proofs.lemmas.List.Quantifiers.{all_pairs_push}
use Rattle.desk_entries.specs.declared.entry.Entry.{Entry}
use Rattle.desk_entries.specs.declared.entry.Entry.TheVariants.{Pair, Named, Registered, Refused, Read, Retiring, Shown, Written, Closed}
use Rattle.desk_entries.specs.declared.entry.Held.{Held}
use Rattle.desk_entries.specs.declared.entry.Held.TheVariants.{Nothing, Letter, Met}
use Rattle.desk_entries.specs.declared.entry.Reading.{Reading}
use Rattle.desk_entries.specs.Letters.{Differ, has_id, holds_id, is_anew, letters_of, told_with}

fold_push : (told : List Reading) (entries : List Entry) (e : Entry) → fold told_with told (entries ++ e ∷ []) ≡ told_with (fold told_with told entries) e
fold_push told [] e = refl
fold_push told (x ∷ entries) e = fold_push (told_with told x) entries e

pub grows : (entries : List Entry) (e : Entry) → letters_of (entries ++ e ∷ []) ≡ told_with (letters_of entries) e
grows entries e = fold_push [] entries e

-- ---- no id twice

same_id : (a b : ℕ) → (a == b) ≡ true → a ≡ b
same_id a b h = grind (arith, nat_tests)

apart : (told : List Reading) (held : Held) (id : ℕ) → is_anew told held ≡ true → holds_id id held ≡ true → list_any (has_id id) told ≡ true → ⊥
apart told Nothing id anew holds among = cc
apart told (Letter other text) id anew holds among =
    let same : other ≡ id = same_id other id holds in
    let there : list_any (has_id other) told ≡ true = subst (λ (x : ℕ). list_any (has_id x) told ≡ true) (sym same) among in
    cc
apart told Met id anew holds among = cc

pushed : (told : List Reading) (r : Reading) (b : Bool) → AllPairs Differ told → is_anew told r.held ≡ b → AllPairs Differ (if b then told ++ r ∷ [] else told)
pushed told r true all anew = all_pairs_push Differ told r all (λ k d below id first second. apart told r.held id anew second (list_any_at (has_id id) told k d below first))
pushed told r false all anew = all

once_with : (told : List Reading) (e : Entry) → AllPairs Differ told → AllPairs Differ (told_with told e)
once_with told (Read r) all = pushed told r (is_anew told r.held) all refl
once_with told (Pair text) all = all
once_with told (Named n) all = all
once_with told (Registered b) all = all
once_with told (Refused d) all = all
once_with told (Retiring name) all = all
once_with told (Shown count) all = all
once_with told (Written count) all = all
once_with told (Closed c) all = all

once_from : (told : List Reading) (entries : List Entry) → AllPairs Differ told → AllPairs Differ (fold told_with told entries)
once_from told [] all = all
once_from told (e ∷ entries) all = once_from (told_with told e) entries (once_with told e all)

pub once : (entries : List Entry) → AllPairs Differ (letters_of entries)
once entries = once_from [] entries (λ i j d before below. absurd (omega arith))
