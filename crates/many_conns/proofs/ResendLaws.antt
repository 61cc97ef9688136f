-- Commands that are sent again.
use Rattle.std.proofs.Common.{◌≡◌, ℕ, zero, suc, ◌+◌, ◌<◌, ◌≤◌, ◌⊎◌, Bool, true, false, List, [], ◌∷◌, ◌++◌, append_assoc, append-nil, length, take, map, refl, sym, ap, ◌∙◌, subst, get_or, arith, add-one, inl, inr}
use Rattle.std.proofs.Math.Seq.{take-suc}
use Rattle.std.proofs.lemmas.List.{take_all}
use Rattle.std.proofs.lemmas.Option.{get_or_from_slice_get, slice_get_cases}
use Rattle.std.specs.Prelude.{Option, Some, None, slice_get}
use Rattle.many_words.specs.declared.door.Door.{Door}
use Rattle.many_words.specs.Doors.{is_dialled}
use Rattle.many_words.specs.Events.{Event, Adds, SentAgain}
use Rattle.many_conns.specs.Routes.{IsResentAt, Resends, resent_at, resent_if}

none_some : (xs : List ℕ) → None ≡ Some xs → ⊥
none_some xs is = cc

pub in_range : (xs : List (List ℕ)) (i : ℕ) (x : List ℕ) → slice_get xs i ≡ Some x → i < length xs
in_range xs i x is = there (slice_get_cases xs i).1
  where
    there : ((y : List ℕ) × (i < length xs) × (slice_get xs i ≡ Some y) × (get_or xs i y ≡ y)) ⊎ ((length xs ≤ i) × (slice_get xs i ≡ None)) → i < length xs
    there (inl found) = found.1
    there (inr none) = absurd (none_some x (sym none.1 ∙ is))

pub past : (xs : List (List ℕ)) (i : ℕ) → slice_get xs i ≡ None → length xs ≤ i
past xs i is = there (slice_get_cases xs i).1
  where
    there : ((y : List ℕ) × (i < length xs) × (slice_get xs i ≡ Some y) × (get_or xs i y ≡ y)) ⊎ ((length xs ≤ i) × (slice_get xs i ≡ None)) → length xs ≤ i
    there (inl found) = absurd (none_some found.0 (sym is ∙ found.2))
    there (inr none) = none.0

one_more : (xs : List (List ℕ)) (i : ℕ) (x : List ℕ) → slice_get xs i ≡ Some x → take (i + 1) xs ≡ take i xs ++ x ∷ []
one_more xs i x is =
    rw add-one (take-suc xs i x (in_range xs i x is) ∙ ap (λ k. take i xs ++ k ∷ []) (get_or_from_slice_get xs i x x is))

map_both : (f : List ℕ → Event) (xs ys : List (List ℕ)) → map f (xs ++ ys) ≡ map f xs ++ map f ys
map_both f [] ys = refl
map_both f (x ∷ xs) ys = ap (λ k. f x ∷ k) (map_both f xs ys)

pub resends_none : (told : Option (List Event)) (place : ℕ) → Resends told told place []
resends_none None place = tt
resends_none (Some events) place = sym (append-nil events)

pub resends_more : (old mid new : Option (List Event)) (place : ℕ) (commands : List (List ℕ)) (index : ℕ)
    → Resends old mid place (take index commands) → IsResentAt mid new place commands index
    → Resends old new place (take (index + 1) commands)
resends_more old mid None place commands index before one = tt
resends_more old None (Some new) place commands index before one = absurd one.told
resends_more None (Some mid) (Some new) place commands index before one = before
resends_more (Some old) (Some mid) (Some new) place commands index before one =
    one.told ∙ (ap (λ k. k ++ SentAgain place one.command ∷ []) before
    ∙ (append_assoc old (map (SentAgain place) (take index commands)) (SentAgain place one.command ∷ [])
    ∙ ap (λ k. old ++ k) (sym (map_both (SentAgain place) (take index commands) (one.command ∷ []))
    ∙ ap (map (SentAgain place)) (sym (one_more commands index one.command one.there)))))

pub resends_all : (old mid new : Option (List Event)) (place : ℕ) (commands : List (List ℕ)) (index : ℕ)
    → Resends old mid place (take index commands) → slice_get commands index ≡ None → new ≡ mid
    → Resends old new place commands
resends_all old mid new place commands index before none same =
    subst (λ told. Resends old told place commands) (sym same)
    (subst (Resends old mid place) (take_all index commands (past commands index none)) before)

pub resends_not : (told : Option (List Event)) (place : ℕ) (door : Door) (b : Bool) (commands : List (List ℕ)) → b ≡ is_dialled door → b ≡ false
    → Resends told told place (resent_at door commands)
resends_not told place door b commands is not_so =
    subst (λ k. Resends told told place (resent_if k commands)) (sym not_so ∙ is) (resends_none told place)

pub resends_so : (old new : Option (List Event)) (place : ℕ) (door : Door) (b : Bool) (commands : List (List ℕ)) → b ≡ is_dialled door → b ≡ true
    → Resends old new place commands → Resends old new place (resent_at door commands)
resends_so old new place door b commands is so all =
    subst (λ k. Resends old new place (resent_if k commands)) (sym so ∙ is) all
