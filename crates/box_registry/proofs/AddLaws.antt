-- What lists of registrations leave.
use Rattle.std.proofs.Common.{◌≡◌, ℕ, ◌+◌, ◌<◌, ◌≤◌, ◌==◌, ◌&&◌, ◌||◌, nat_lt, nat_le, Bool, true, false, not, cond, List, [], ◌∷◌, ◌++◌, length, take, filter, Some, None, Result, Ok, Err, is_ok, refl, sym, ap, ◌∙◌, arith, append_assoc, append-nil, length-append, suc}
use Rattle.std.specs.List.{list_any, prefix_len}
use Rattle.std.proofs.lemmas.List.{take-append-le, take_all}
use Rattle.std.proofs.lemmas.List.Elements.{filter_agree}
use Rattle.std.proofs.lemmas.Bool.{eqb-true}
use Rattle.std.proofs.lemmas.Bool.Decides.{nat_tests}
use Rattle.box_registry.specs.Boxes.{Box, Boxes, addresses_of, answer_at}
use Rattle.box_registry.specs.Adds.{added, after, first_of_each, FirstsStand}
use Rattle.box_registry.specs.declared.fault.RegFault.{RegFault}
use Rattle.box_registry.specs.declared.fault.RegFault.TheVariants.{Full}

-- whether an address stands at one of the boxes
abbrev has : List Box → ℕ → Bool
has boxes address = list_any (λ (box : Box). box.address == address) boxes

has-more : (boxes : List Box) (asked : Box) (address : ℕ) → has (boxes ++ asked ∷ []) address ≡ (has boxes address || (asked.address == address))
has-more [] asked address = or_false (asked.address == address)
  where
    or_false : (b : Bool) → (b || false) ≡ b
    or_false true = refl
    or_false false = refl
has-more (box ∷ boxes) asked address =
    elim (box.address == address) as (λ b. (b || has (boxes ++ asked ∷ []) address) ≡ ((b || has boxes address) || (asked.address == address))) [
      | true ↦ refl
      | false ↦ has-more boxes asked address
    ]

shift-lt : (p n : ℕ) → nat_lt (1 + p) (suc n) ≡ nat_lt p n
shift-lt p n = grind (arith, nat_tests)

-- it stands there exactly where its place is found
prefix-has : (boxes : List Box) (address : ℕ) → nat_lt (prefix_len (λ x. not (x == address)) (addresses_of boxes)) (length (addresses_of boxes)) ≡ has boxes address
prefix-has [] address = refl
prefix-has (box ∷ boxes) address =
    let p : ℕ = prefix_len (λ x. not (x == address)) (addresses_of boxes) in
    elim (box.address == address) as (λ b. nat_lt (cond (not b) (1 + p) 0) (suc (length (addresses_of boxes))) ≡ (b || has boxes address)) [
      | true ↦ grind (arith, nat_tests)
      | false ↦ shift-lt p (length (addresses_of boxes)) ∙ prefix-has boxes address
    ]

-- ---- one registration

-- the boxes with this limit
abbrev boxes_with : ℕ → List Box → Boxes
boxes_with limit boxes = record { limit = limit; boxes = boxes }

accepts : (limit count place : ℕ) (b : Bool) → is_ok (answer_at limit count (cond b (Some place) None)) ≡ cond b false (not (nat_le limit count))
accepts limit count place true = refl
accepts limit count place false =
    elim (nat_le limit count) as (λ full. let o : Result ℕ RegFault = cond full (Err (Full limit)) (Ok count) in is_ok o ≡ not full) [ true ↦ refl | false ↦ refl ]

is-added : (limit : ℕ) (boxes : List Box) (asked : Box) →
    added (boxes_with limit boxes) asked ≡ cond (cond (has boxes asked.address) false (not (nat_le limit (length boxes)))) (boxes_with limit (boxes ++ asked ∷ [])) (boxes_with limit boxes)
is-added limit boxes asked =
    let place : ℕ = prefix_len (λ x. not (x == asked.address)) (addresses_of boxes) in
    let answer = accepts limit (length boxes) place (nat_lt place (length (addresses_of boxes))) in
    ap (λ b. cond b (boxes_with limit (boxes ++ asked ∷ [])) (boxes_with limit boxes))
    (answer ∙ ap (λ b. cond b false (not (nat_le limit (length boxes)))) (prefix-has boxes asked.address))

-- ---- lists of registrations

-- whether an address doesn't stand at one of the boxes yet
abbrev is_new : List Box → Box → Bool
is_new boxes other = not (has boxes other.address)

filter-filter : (p q : Box → Bool) (xs : List Box) → filter p (filter q xs) ≡ filter (λ x. q x && p x) xs
filter-filter p q [] = refl
filter-filter p q (x ∷ xs) =
    elim (q x) as (λ b. filter p (cond b (x ∷ filter q xs) (filter q xs)) ≡ cond (b && p x) (x ∷ filter (λ y. q y && p y) xs) (filter (λ y. q y && p y) xs)) [
      | true ↦ ap (λ ys. cond (p x) (x ∷ ys) ys) (filter-filter p q xs)
      | false ↦ filter-filter p q xs
    ]

-- the boxes that the registrations add
abbrev new_ones : List Box → List Box → List Box
new_ones boxes asked = filter (is_new boxes) (first_of_each asked)

-- an address that stands adds nothing
old-asked : (boxes : List Box) (asked : Box) (rest : List Box) → has boxes asked.address ≡ true → new_ones boxes (asked ∷ rest) ≡ new_ones boxes rest
old-asked boxes asked rest stands =
    let others : Box → Bool = λ other. not (asked.address == other.address) in
    ap (λ b. cond (not b) (asked ∷ filter (is_new boxes) (filter others (first_of_each rest))) (filter (is_new boxes) (filter others (first_of_each rest)))) stands
    ∙ filter-filter (is_new boxes) others (first_of_each rest)
    ∙ filter_agree (λ x. others x && is_new boxes x) (is_new boxes) agree (first_of_each rest)
  where
    by_same : (x : Box) (b : Bool) → (asked.address == x.address) ≡ b → (not b && is_new boxes x) ≡ is_new boxes x
    by_same x true e =
        let at : has boxes x.address ≡ true = ap (has boxes) (sym (eqb-true asked.address x.address e)) ∙ stands in
        sym (ap not at)
    by_same x false e = refl

    agree : (x : Box) → (not (asked.address == x.address) && is_new boxes x) ≡ is_new boxes x
    agree x = by_same x (asked.address == x.address) refl

-- a new one comes first of those that are added
new-asked : (boxes : List Box) (asked : Box) (rest : List Box) → has boxes asked.address ≡ false →
    boxes ++ new_ones boxes (asked ∷ rest) ≡ (boxes ++ asked ∷ []) ++ new_ones (boxes ++ asked ∷ []) rest
new-asked boxes asked rest none =
    let others : Box → Bool = λ other. not (asked.address == other.address) in
    let more = boxes ++ asked ∷ [] in
    let same = filter-filter (is_new boxes) others (first_of_each rest) ∙ filter_agree (λ x. others x && is_new boxes x) (is_new more) agree (first_of_each rest) in
    ap (λ b. boxes ++ cond (not b) (asked ∷ filter (is_new boxes) (filter others (first_of_each rest))) (filter (is_new boxes) (filter others (first_of_each rest)))) none
    ∙ ap (λ xs. boxes ++ asked ∷ xs) same
    ∙ sym (append_assoc boxes (asked ∷ []) (new_ones more rest))
  where
    neither : (b c : Bool) → (not c && not b) ≡ not (b || c)
    neither true true = refl
    neither true false = refl
    neither false true = refl
    neither false false = refl

    agree : (x : Box) → (not (asked.address == x.address) && is_new boxes x) ≡ is_new (boxes ++ asked ∷ []) x
    agree x = neither (has boxes x.address) (asked.address == x.address) ∙ ap not (sym (has-more boxes asked x.address))

full-take : (limit : ℕ) (boxes more : List Box) → length boxes ≡ limit → take limit (boxes ++ more) ≡ boxes
full-take limit boxes more full = take-append-le limit boxes more (omega arith) ∙ take_all limit boxes (omega arith)

-- the boxes after the rest, where it stands for one more box and for none
module _ (limit : ℕ) (boxes : List Box) (asked : Box) (rest : List Box) (within : length boxes ≤ limit)
    (more : length boxes < limit → after (boxes_with limit (boxes ++ asked ∷ [])) rest ≡ boxes_with limit (take limit ((boxes ++ asked ∷ []) ++ new_ones (boxes ++ asked ∷ []) rest)))
    (same : after (boxes_with limit boxes) rest ≡ boxes_with limit (take limit (boxes ++ new_ones boxes rest))) where
  by_full : (full : Bool) → nat_le limit (length boxes) ≡ full → has boxes asked.address ≡ false →
      after (cond (not full) (boxes_with limit (boxes ++ asked ∷ [])) (boxes_with limit boxes)) rest ≡ boxes_with limit (take limit (boxes ++ new_ones boxes (asked ∷ rest)))
  by_full true e none =
      let full : length boxes ≡ limit = grind (arith, nat_tests, e, within) in
      same ∙ ap (boxes_with limit) (full-take limit boxes (new_ones boxes rest) full ∙ sym (full-take limit boxes (new_ones boxes (asked ∷ rest)) full))
  by_full false e none =
      let room : length boxes < limit = grind (arith, nat_tests, e) in
      more room ∙ ap (λ xs. boxes_with limit (take limit xs)) (sym (new-asked boxes asked rest none))

  by_old : (old : Bool) → has boxes asked.address ≡ old →
      after (cond (cond old false (not (nat_le limit (length boxes)))) (boxes_with limit (boxes ++ asked ∷ [])) (boxes_with limit boxes)) rest
      ≡ boxes_with limit (take limit (boxes ++ new_ones boxes (asked ∷ rest)))
  by_old true e = same ∙ ap (λ xs. boxes_with limit (take limit (boxes ++ xs))) (sym (old-asked boxes asked rest e))
  by_old false e = by_full (nat_le limit (length boxes)) refl e

stand : (limit : ℕ) (boxes asked : List Box) → length boxes ≤ limit → after (boxes_with limit boxes) asked ≡ boxes_with limit (take limit (boxes ++ new_ones boxes asked))
stand limit boxes [] within = ap (boxes_with limit) (sym (ap (take limit) (append-nil boxes) ∙ take_all limit boxes within))
stand limit boxes (asked ∷ rest) within =
    ap (λ r. after r rest) (is-added limit boxes asked)
    ∙ by_old limit boxes asked rest within
    (λ room. stand limit (boxes ++ asked ∷ []) rest (simp length-append (omega arith)))
    (stand limit boxes rest within) (has boxes asked.address) refl

all-new : (asked : List Box) → new_ones [] asked ≡ first_of_each asked
all-new asked = keep_all (first_of_each asked)
  where
    keep_all : (xs : List Box) → filter (is_new []) xs ≡ xs
    keep_all [] = refl
    keep_all (x ∷ xs) = ap (λ ys. x ∷ ys) (keep_all xs)

pub firsts_stand : FirstsStand
firsts_stand limit asked = stand limit [] asked (omega arith) ∙ ap (λ xs. boxes_with limit (take limit xs)) (all-new asked)
