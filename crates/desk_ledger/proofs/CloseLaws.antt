-- Boxes that are closed.
use Rattle.std.proofs.Common.{◌≡◌, ℕ, Bool, true, false, List, [], ◌∷◌, ◌++◌, Option, Some, None, refl, ap}
use Rattle.std.specs.Prelude.{if◌then◌else◌, bytes_eq, is_some, unwrap_or}
use Rattle.std.proofs.lemmas.Slice.Eq.{bytes_eq-Decides}
use Rattle.desk_entries.specs.declared.entry.Entry.{Entry}
use Rattle.desk_entries.specs.declared.entry.Entry.TheVariants as entry
use Rattle.desk_entries.specs.Desks.{closed_at}
use Rattle.desk_texts.specs.declared.day.Day.{Day}

closed_by : (b : Bool) (first day : Day) (rest now : Option Day) → now ≡ Some (unwrap_or rest day)
    → (if b then Some first else now) ≡ Some (unwrap_or (if b then Some first else rest) day)
closed_by true first day rest now is = refl
closed_by false first day rest now is = is

first_by : (name : List ℕ) (day : Day) → closed_at (entry.Closed (record { name = name; day = day }) ∷ []) name ≡ Some day
first_by name day = ap (λ (b : Bool). if b then Some day else None) ((bytes_eq-Decides name name).1 refl)

-- what is noted as closed is closed, since that day or an earlier note's
pub closed_then : (entries : List Entry) (name : List ℕ) (day : Day)
    → closed_at (entries ++ entry.Closed (record { name = name; day = day }) ∷ []) name ≡ Some (unwrap_or (closed_at entries name) day)
closed_then [] name day = first_by name day
closed_then (entry.Closed c ∷ entries) name day =
    closed_by (bytes_eq c.name name) c.day day (closed_at entries name) _ (closed_then entries name day)
closed_then (entry.Pair text ∷ entries) name day = closed_then entries name day
closed_then (entry.Named n ∷ entries) name day = closed_then entries name day
closed_then (entry.Registered b ∷ entries) name day = closed_then entries name day
closed_then (entry.Refused d ∷ entries) name day = closed_then entries name day
closed_then (entry.Read r ∷ entries) name day = closed_then entries name day
closed_then (entry.Retiring n ∷ entries) name day = closed_then entries name day
closed_then (entry.Shown count ∷ entries) name day = closed_then entries name day
closed_then (entry.Written count ∷ entries) name day = closed_then entries name day

pub stays_closed : (at : Option Day) (day : Day) → is_some at ≡ true → at ≡ Some (unwrap_or at day)
stays_closed (Some first) day is = refl
stays_closed None day is = absurd (cc is)
