-- Lists that hold the same numbers.
use Rattle.std.proofs.Common.{◌≡◌, ℕ, zero, suc, ◌<◌, Bool, true, false, List, [], ◌∷◌, length, map, get_or, refl, sym, ◌∙◌, ap}
use Rattle.std.specs.Prelude.{◌==◌, ◌||◌}
use Rattle.std.specs.List.{list_any}
use Rattle.std.specs.Set.{is_member, distinct_count}
use Rattle.std.proofs.lemmas.List.Folds.{Any-from_list_any, list_any_at}
use Rattle.std.proofs.lemmas.List.{get_or_default}
use Rattle.std.proofs.lemmas.Bool.{eqb-true, eq-eqb}
use Rattle.dpf_rules.specs.Evaluation.{prefix, prefixes_below, prefix_count}
use Rattle.dpf_eval.proofs.CountLemmas.{same_distinct_count}

-- tests that pass together are equal
pub same_test : (b c : Bool) → (b ≡ true → c ≡ true) → (c ≡ true → b ≡ true) → b ≡ c
same_test true c onto back = sym (onto refl)
same_test false true onto back = back refl
same_test false false onto back = refl

pub list_any-map : (p : ℕ → Bool) (f : ℕ → ℕ) (xs : List ℕ) → list_any p (map f xs) ≡ list_any (λ x. p (f x)) xs
list_any-map p f [] = refl
list_any-map p f (x ∷ xs) = ap (λ (b : Bool). p (f x) || b) (list_any-map p f xs)

-- what one list holds and the other too
abbrev pub HoldsIn : List ℕ → List ℕ → Type 0
HoldsIn xs ys = (q : ℕ) → is_member ◌==◌ xs q ≡ true → is_member ◌==◌ ys q ≡ true

pub member_at : (xs : List ℕ) (k : ℕ) → k < length xs → is_member ◌==◌ xs (get_or xs k 0) ≡ true
member_at xs k inside = list_any_at (◌==◌ (get_or xs k 0)) xs k 0 inside (eq-eqb (get_or xs k 0) (get_or xs k 0) refl)

-- the place of a member
pub place_of_member : (xs : List ℕ) (q : ℕ) → is_member ◌==◌ xs q ≡ true → (k : ℕ) × (k < length xs) × (q ≡ get_or xs k 0)
place_of_member xs q here =
    let (k, x, inside, read, same) = Any-from_list_any (◌==◌ q) xs here in
    (k, inside, eqb-true q x same ∙ sym read ∙ get_or_default xs k x 0 inside)

map_holds : (f : ℕ → ℕ) (xs ys : List ℕ) → HoldsIn xs ys → HoldsIn (map f xs) (map f ys)
map_holds f xs ys holds q here =
    let (k, x, inside, read, same) = Any-from_list_any (λ x. q == f x) xs (sym (list_any-map (◌==◌ q) f xs) ∙ here) in
    let is : get_or xs k 0 ≡ x = get_or_default xs k 0 x inside ∙ read in
    let (j, within, found) = place_of_member ys (get_or xs k 0) (holds (get_or xs k 0) (member_at xs k inside)) in
    let same_there : (q == f (get_or ys j 0)) ≡ true = rw (← found, is) same in
    list_any-map (◌==◌ q) f ys ∙ list_any_at (λ x. q == f x) ys j 0 within same_there

same_below : (xs ys : List ℕ) → HoldsIn xs ys → HoldsIn ys xs → (n : ℕ) → prefixes_below n xs ≡ prefixes_below n ys
unfolding prefixes_below
same_below xs ys onto back zero = refl
same_below xs ys onto back (suc n) =
    let level : distinct_count ◌==◌ (map (prefix n) xs) ≡ distinct_count ◌==◌ (map (prefix n) ys) =
    same_distinct_count (map (prefix n) xs) (map (prefix n) ys)
    (λ q. same_test _ _ (map_holds (prefix n) xs ys onto q) (map_holds (prefix n) ys xs back q)) in
    rw (same_below xs ys onto back n, level) refl

-- the number of prefixes depends on what a list holds alone
pub same_prefix_count : (xs ys : List ℕ) → HoldsIn xs ys → HoldsIn ys xs → prefix_count xs ≡ prefix_count ys
same_prefix_count xs ys onto back = same_below xs ys onto back 128
