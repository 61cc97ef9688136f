-- The entries of a map as boxes.
use Rattle.std.proofs.Common.{◌≡◌, ℕ, zero, suc, ◌<◌, nat_eq, Bool, false, List, [], ◌∷◌, ◌++◌, length, position, slice_get, slice_index_or, Option, Some, None, option_map, is_some, arith, refl, sym, ◌∙◌, ap, subst}
use Rattle.std.specs.Map.{keys_of}
use Rattle.std.specs.Map.{lookup}
use Rattle.indexmap.proofs.MapLemmas.{some_index}
use Rattle.box_registry.specs.Boxes.{Box, Boxes, Differ, addresses_of, place_of}
use Rattle.store_tests.specs.Entries.{box_of_entry, boxes_of_entries}

pub addresses_of-entries : (entries : List (ℕ × List ℕ)) → addresses_of (boxes_of_entries entries) ≡ keys_of entries
addresses_of-entries [] = refl
addresses_of-entries (e ∷ entries) = ap (λ xs. e.0 ∷ xs) (addresses_of-entries entries)

pub length-entries : (entries : List (ℕ × List ℕ)) → length (boxes_of_entries entries) ≡ length (keys_of entries)
length-entries [] = refl
length-entries (e ∷ entries) = ap suc (length-entries entries)

eq_sym : (a b : ℕ) → nat_eq a b ≡ nat_eq b a
eq_sym a b = grind arith

position_sym : (address : ℕ) (xs : List ℕ) → position (nat_eq address) xs ≡ position (λ x. nat_eq x address) xs
position_sym address xs = ap (λ (test : ℕ → Bool). position test xs) (λ i x. eq_sym address x i)

pub place_of-entries : (address : ℕ) (entries : List (ℕ × List ℕ)) → place_of address (boxes_of_entries entries) ≡ position (nat_eq address) (keys_of entries)
place_of-entries address entries = ap (λ xs. position (λ x. nat_eq x address) xs) (addresses_of-entries entries) ∙ sym (position_sym address (keys_of entries))

pub slice_get-entries : (entries : List (ℕ × List ℕ)) (n : ℕ) → slice_get (boxes_of_entries entries) n ≡ option_map box_of_entry (slice_get entries n)
slice_get-entries [] n = refl
slice_get-entries (e ∷ entries) zero = refl
slice_get-entries (e ∷ entries) (suc n) = slice_get-entries entries n

pub address-entries : (entries : List (ℕ × List ℕ)) (n : ℕ) → option_map (λ (found : Box). found.address) (slice_get (boxes_of_entries entries) n) ≡ slice_get (keys_of entries) n
address-entries [] n = refl
address-entries (e ∷ entries) zero = refl
address-entries (e ∷ entries) (suc n) = address-entries entries n

pub get_there : (xs : List ℕ) (n x : ℕ) → n < length xs → x ≡ slice_index_or xs n x → slice_get xs n ≡ Some x
get_there [] n x h is = absurd (omega (arith, h))
get_there (y ∷ xs) zero x h is = ap Some (sym is)
get_there (y ∷ xs) (suc n) x h is = get_there xs n x (omega (arith, h)) is

pub boxes_of_entries-push : (entries : List (ℕ × List ℕ)) (e : ℕ × List ℕ) → boxes_of_entries (entries ++ e ∷ []) ≡ boxes_of_entries entries ++ box_of_entry e ∷ []
boxes_of_entries-push [] e = refl
boxes_of_entries-push (f ∷ entries) e = ap (λ bs. box_of_entry f ∷ bs) (boxes_of_entries-push entries e)

pub keys_of-push : (entries : List (ℕ × List ℕ)) (e : ℕ × List ℕ) → keys_of (entries ++ e ∷ []) ≡ keys_of entries ++ e.0 ∷ []
keys_of-push [] e = refl
keys_of-push (f ∷ entries) e = ap (λ xs. f.0 ∷ xs) (keys_of-push entries e)

none_from : {A : Type 0} (r : Option A) → is_some r ≡ false → r ≡ None
none_from None h = refl
none_from (Some x) h = cc

-- an address that stands at no entry has no key
pub absent : (address : ℕ) (entries : List (ℕ × List ℕ)) → place_of address (boxes_of_entries entries) ≡ None → lookup (nat_eq address) entries ≡ None
absent address entries none =
    none_from (lookup (nat_eq address) entries) (sym (some_index (nat_eq address) entries) ∙ ap is_some (sym (place_of-entries address entries) ∙ none))

-- how many boxes the addresses of a registry's entries are
pub length-now : (limit : ℕ) (entries : List (ℕ × List ℕ)) (addresses : List ℕ) (now : Boxes) → record { limit = limit; boxes = boxes_of_entries entries } ≡ now → addresses ≡ keys_of entries
    → length now.boxes ≡ length addresses
length-now limit entries addresses now view is = ap (λ (r : Boxes). length r.boxes) (sym view) ∙ length-entries entries ∙ ap length (sym is)

pub addresses-now : (limit : ℕ) (entries : List (ℕ × List ℕ)) (addresses : List ℕ) (now : Boxes) → record { limit = limit; boxes = boxes_of_entries entries } ≡ now → addresses ≡ keys_of entries
    → addresses ≡ addresses_of now.boxes
addresses-now limit entries addresses now view is = is ∙ sym (addresses_of-entries entries) ∙ ap (λ (r : Boxes). addresses_of r.boxes) view

pub differ-now : (limit : ℕ) (entries : List (ℕ × List ℕ)) (addresses : List ℕ) (now : Boxes) → record { limit = limit; boxes = boxes_of_entries entries } ≡ now → addresses ≡ keys_of entries
    → Differ addresses → Differ (addresses_of now.boxes)
differ-now limit entries addresses now view is differ = subst Differ (addresses-now limit entries addresses now view is) differ
