-- What a round's commit leaves.
use Rattle.std.proofs.Common.{◌≡◌, ◌<◌, ◌≤◌, ◌⊎◌, get_or, ℕ, List, [], ◌∷◌, ◌++◌, length, true, false, All, refl, sym, ap, ◌∙◌, subst, arith, inl, inr}
use Rattle.std.proofs.lemmas.Bool.{eqb-true}
use Rattle.std.proofs.lemmas.List.Elements.{All-set}
use Rattle.std.proofs.lemmas.Option.{slice_get_read, get_or_from_slice_get, slice_get_cases}
use Rattle.std.specs.Prelude.{Bool, min, Option, Some, None, unwrap_or, Result, Ok, Err, OnOk, OnErr, is_err, is_some, ◌==◌, slice_get, slice_set}
use Rattle.many_words.specs.Events.{Event, Entry, Adds, Logged, LogFailed, Waited}
use Rattle.many_conns.specs.declared.patience.Patience.{Patience}
use Rattle.many_conns.specs.Rules.{Rules}
use Rattle.many_conns.specs.Places.{Place, taken}
use Rattle.many_conns.specs.declared.batch.Budget.{Budget}
use Rattle.many_conns.specs.Batches.{line, admitted, refused, all_taken, put_some}
use Rattle.many_conns.specs.Hall.{Hall, Leads, Waits, IsLooked}
use Rattle.many_conns.proofs.LeadLaws.{leads_one, leads_none}
use Rattle.many_conns.proofs.PlaceLaws.{hall}

pub logs_all : {S : Type 0} (rules : Rules S) (old new : Option (List Event)) (h : Hall S)
    → (patience : Patience) (most dear now : ℕ) (places after : List Place) (turn next : ℕ) (served : Bool) (server : S) (owed entries : List Entry)
    → (full : Option ℕ) (room : ℕ) → h ≡ hall patience most dear now places turn served server owed → h.owed ≡ [] → h.served ≡ false
    → room ≡ most
    → entries ≡ admitted rules.is_dear (record { frames = most; clients = rules.room server; dear = dear }) (line rules server turn places)
    → full ≡ refused rules.is_dear (record { frames = most; clients = rules.room server; dear = dear }) (line rules server turn places)
    → next ≡ unwrap_or full turn → after ≡ all_taken now entries places → Adds old new (Logged entries)
    → Leads rules old new h (hall patience room dear now after next true server entries)
logs_all rules old new h patience most dear now places after turn next served server owed entries full room is none once same batch stop turns done adds =
    let left : Budget = record { frames = most; clients = rules.room server; dear = dear } in
    subst (λ k. Leads rules old new k (hall patience room dear now after next true server entries)) (sym is)
    (leads_one rules old new _ _ (Logged entries) adds refl
    (record {
      nothing_owed = subst (λ k. k.owed ≡ []) is none;
      once = subst (λ k. k.served ≡ false) is once;
      written = batch;
      is = ap (λ k. hall patience k dear now after next true server entries) same
          ∙ (ap (λ k. hall patience most dear now k next true server entries) done
          ∙ (ap (λ k. hall patience most dear now (all_taken now entries places) k true server entries) (turns ∙ ap (λ k. unwrap_or k turn) stop)
          ∙ ap (λ k. hall patience most dear now (all_taken now k places)
          (unwrap_or (refused rules.is_dear left (line rules server turn places)) turn) true server k) batch));
    }))

same_hall : {S : Type 0} (patience : Patience) (most dear now : ℕ) (places : List Place) (turn : ℕ) (served : Bool) (server : S)
    (owed entries : List Entry) (room : ℕ) → owed ≡ [] → room ≡ most → entries ≡ []
    → hall patience most dear now places turn served server owed ≡ hall patience room dear now places turn served server entries
same_hall patience most dear now places turn served server owed entries room none same empty =
    ap (λ k. hall patience k dear now places turn served server owed) (sym same)
    ∙ ap (λ k. hall patience room dear now places turn served server k) (none ∙ sym empty)

-- nothing was taken, and nothing told
pub same_all : {S : Type 0} (rules : Rules S) (told : Option (List Event)) (h : Hall S)
    → (patience : Patience) (most dear now : ℕ) (places : List Place) (turn : ℕ) (served : Bool) (server : S) (owed entries : List Entry) (room : ℕ)
    → h ≡ hall patience most dear now places turn served server owed → h.owed ≡ [] → room ≡ most → entries ≡ []
    → Leads rules told told h (hall patience room dear now places turn served server entries)
same_all rules told h patience most dear now places turn served server owed entries room is none same empty =
    subst (λ t. Leads rules told told h t) (is ∙ same_hall patience most dear now places turn served server owed entries room
    (sym (ap (λ k. k.owed) is) ∙ none) same empty) (leads_none rules told h)

pub fails_all : {S : Type 0} (rules : Rules S) (old new : Option (List Event)) (h : Hall S)
    → (patience : Patience) (most dear now : ℕ) (places : List Place) (turn : ℕ) (served : Bool) (server : S) (owed entries : List Entry) (room : ℕ)
    → h ≡ hall patience most dear now places turn served server owed → h.owed ≡ [] → room ≡ most → entries ≡ []
    → Adds old new LogFailed → Leads rules old new h (hall patience room dear now places turn served server entries)
fails_all rules old new h patience most dear now places turn served server owed entries room is none same empty adds =
    subst (λ t. Leads rules old new h t) (is ∙ same_hall patience most dear now places turn served server owed entries room
    (sym (ap (λ k. k.owed) is) ∙ none) same empty)
    (leads_one rules old new h h LogFailed adds refl (record { nothing_owed = none; is = refl }))

pub waits_once : {S : Type 0} (rules : Rules S) (old new : Option (List Event)) (h t : Hall S) (now : ℕ)
    → Waits rules h now t → Adds old new (Waited now) → Leads rules old new h t
waits_once rules old new h t now waits adds = leads_one rules old new h t (Waited now) adds refl waits

no_true : true ≡ false → ⊥
no_true e = grind arith

pub on_err : {T E P : Type 0} (r : Result T E) → OnErr r P → true ≡ is_err r → P
on_err (Ok v) p is = absurd (no_true is)
on_err (Err e) p is = p

pub if_err : {T E P : Type 0} (r : Result T E) → P → OnErr r P
if_err (Ok v) p = tt
if_err (Err e) p = p

pub on_ok : {T E P : Type 0} (r : Result T E) → OnOk r P → false ≡ is_err r → P
on_ok (Ok v) p is = p
on_ok (Err e) p is = absurd (no_true (sym is))

-- frames that are taken leave each connection looked at
none_some : (p : Place) → None ≡ Some p → ⊥
none_some p is = cc

pub looked_there : (places : List Place) (place : ℕ) (p : Place) → slice_get places place ≡ Some p → All IsLooked places → IsLooked p
looked_there places place p is all = there (slice_get_cases places place).1
  where
    there : ((x : Place) × (place < length places) × (slice_get places place ≡ Some x) × (get_or places place x ≡ x)) ⊎ ((length places ≤ place) × (slice_get places place ≡ None)) → IsLooked p
    there (inl found) = subst IsLooked (get_or_from_slice_get places place p p is) (all place p found.1)
    there (inr none) = absurd (none_some p (sym none.1 ∙ is))

put_looked : (places : List Place) (place now count : ℕ) (o : Option Place) → slice_get places place ≡ o → All IsLooked places
    → All IsLooked (put_some places place (taken now count) o)
put_looked places place now count None is all = all
put_looked places place now count (Some p) is all =
    All-set IsLooked places place (taken now count p) (looked_there places place p is all) all

pub taken_looked : (now : ℕ) (entries : List Entry) (places : List Place) → All IsLooked places → All IsLooked (all_taken now entries places)
taken_looked now [] places all = all
taken_looked now (e ∷ entries) places all =
    taken_looked now entries _ (put_looked places e.place now (length e.frame) (slice_get places e.place) refl all)

pub none_of : {A : Type 0} (o : Option A) → is_some o ≡ false → o ≡ None
none_of None is = refl
none_of (Some x) is = absurd (no_true is)

pub empty_of : (xs : List Entry) → true ≡ (length xs == 0) → xs ≡ []
empty_of [] is = refl
empty_of (x ∷ xs) is =
    let none : length (x ∷ xs) ≡ 0 = eqb-true (length (x ∷ xs)) 0 (sym is) in absurd (omega arith)
