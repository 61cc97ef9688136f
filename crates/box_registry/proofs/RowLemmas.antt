-- Rows of addresses and keys as boxes.
use Rattle.std.proofs.Common.{◌≡◌, ℕ, zero, suc, ◌<◌, ◌≤◌, get_or, List, [], ◌∷◌, ◌++◌, length, slice_get, Option, Some, None, option_map, arith, refl, sym, ◌∙◌, ap, subst}
use Rattle.std.specs.Prelude.{◌==◌, position, Ok, Err}
use Rattle.std.proofs.lemmas.Bool.{le-leb, lt-leb}
use Rattle.box_registry.specs.declared.fault.RegFault.TheVariants.{Taken, Full}
use Rattle.box_registry.specs.Boxes.{Box, Boxes, Differ, addresses_of, place_of, answer_at, answer_to, with_box}
use Rattle.box_registry.specs.Arrays.{boxes_of_arrays}

pub addresses_of-rows : (addresses : List ℕ) (keys : List (List ℕ)) → length keys ≡ length addresses → addresses_of (boxes_of_arrays addresses keys) ≡ addresses
addresses_of-rows [] keys same = refl
addresses_of-rows (a ∷ addresses) [] same = absurd (omega arith)
addresses_of-rows (a ∷ addresses) (k ∷ keys) same = ap (λ (xs : List ℕ). a ∷ xs) (addresses_of-rows addresses keys (omega arith))

pub differ-rows : (addresses : List ℕ) (keys : List (List ℕ)) → length keys ≡ length addresses → Differ addresses → Differ (addresses_of (boxes_of_arrays addresses keys))
differ-rows addresses keys same differ = subst Differ (sym (addresses_of-rows addresses keys same)) differ

pub length-rows : (addresses : List ℕ) (keys : List (List ℕ)) → length keys ≡ length addresses → length (boxes_of_arrays addresses keys) ≡ length addresses
length-rows [] keys same = refl
length-rows (a ∷ addresses) [] same = absurd (omega arith)
length-rows (a ∷ addresses) (k ∷ keys) same = ap (λ (n : ℕ). suc n) (length-rows addresses keys (omega arith))

pub rows-push : (addresses : List ℕ) (keys : List (List ℕ)) (a : ℕ) (k : List ℕ) → length keys ≡ length addresses
    → boxes_of_arrays (addresses ++ a ∷ []) (keys ++ k ∷ []) ≡ boxes_of_arrays addresses keys ++ record { address = a; key = k } ∷ []
rows-push [] [] a k same = refl
rows-push [] (l ∷ keys) a k same = absurd (omega arith)
rows-push (b ∷ addresses) [] a k same = absurd (omega arith)
rows-push (b ∷ addresses) (l ∷ keys) a k same =
    ap (λ (bs : List Box). record { address = b; key = l } ∷ bs) (rows-push addresses keys a k (omega arith))

pub key-rows : (addresses : List ℕ) (keys : List (List ℕ)) (n : ℕ) → length keys ≡ length addresses
    → option_map (λ (found : Box). found.key) (slice_get (boxes_of_arrays addresses keys) n) ≡ slice_get keys n
key-rows [] [] n same = refl
key-rows [] (k ∷ keys) n same = absurd (omega arith)
key-rows (a ∷ addresses) [] n same = absurd (omega arith)
key-rows (a ∷ addresses) (k ∷ keys) zero same = refl
key-rows (a ∷ addresses) (k ∷ keys) (suc n) same = key-rows addresses keys n (omega arith)

pub address-get : (boxes : List Box) (n : ℕ) → option_map (λ (found : Box). found.address) (slice_get boxes n) ≡ slice_get (addresses_of boxes) n
address-get [] n = refl
address-get (b ∷ boxes) zero = refl
address-get (b ∷ boxes) (suc n) = address-get boxes n

-- what contracts see of a registry's rows
module _ (limit : ℕ) (addresses : List ℕ) (keys : List (List ℕ)) (now : Boxes)
    (view : record { limit = limit; boxes = boxes_of_arrays addresses keys } ≡ now) (same : length keys ≡ length addresses) where
  pub addresses-now : addresses ≡ addresses_of now.boxes
  addresses-now = sym (addresses_of-rows addresses keys same) ∙ ap (λ (r : Boxes). addresses_of r.boxes) view

  pub length-now : length addresses ≡ length now.boxes
  length-now = sym (length-rows addresses keys same) ∙ ap (λ (r : Boxes). length r.boxes) view

  pub differ-now : Differ addresses → Differ (addresses_of now.boxes)
  differ-now differ = subst Differ addresses-now differ

  pub limit-now : limit ≡ now.limit
  limit-now = ap (λ (r : Boxes). r.limit) view

  -- where the rows have an address, contracts see it
  same_place : (address : ℕ) (place : Option ℕ) → place ≡ position (λ other. other == address) addresses → place ≡ place_of address now.boxes
  same_place address place is = is ∙ ap (λ (xs : List ℕ). position (λ other. other == address) xs) addresses-now

  pub answer-taken : (address b : ℕ) → Some b ≡ position (λ other. other == address) addresses → Err (Taken b) ≡ answer_to now address
  answer-taken address b is = ap (answer_at now.limit (length now.boxes)) (same_place address (Some b) is)

  pub answer-full : (address : ℕ) → None ≡ position (λ other. other == address) addresses → limit ≤ length addresses
      → Err (Full limit) ≡ answer_to now address
  answer-full address is full =
      full_there ∙ ap (answer_at now.limit (length now.boxes)) (same_place address None is)
    where
      full_there : Err (Full limit) ≡ answer_at now.limit (length now.boxes) None
      full_there = rw (← limit-now, ← length-now, le-leb limit (length addresses) full) refl

  pub answer-next : (address : ℕ) → None ≡ position (λ other. other == address) addresses → length addresses < limit
      → Ok (length addresses) ≡ answer_to now address
  answer-next address is room =
      next_there ∙ ap (answer_at now.limit (length now.boxes)) (same_place address None is)
    where
      next_there : Ok (length addresses) ≡ answer_at now.limit (length now.boxes) None
      next_there = rw (← limit-now, ← length-now, lt-leb limit (length addresses) room) refl

  pub one_row_more : (address : ℕ) (key : List ℕ)
      → record { limit = limit; boxes = boxes_of_arrays (addresses ++ address ∷ []) (keys ++ key ∷ []) } ≡ with_box now address key
  one_row_more address key =
      rw (rows-push addresses keys address key same)
      (ap (λ (r : Boxes). record { limit = r.limit; boxes = r.boxes ++ record { address = address; key = key } ∷ [] }) view)

-- a place of a list, by what was read there
pub get_there : {X : Type 0} (xs : List X) (n : ℕ) (x : X) → n < length xs → x ≡ get_or xs n x → slice_get xs n ≡ Some x
get_there [] n x inside is = absurd (omega arith)
get_there (y ∷ xs) zero x inside is = ap Some (sym is)
get_there (y ∷ xs) (suc n) x inside is = get_there xs n x (omega arith) is
