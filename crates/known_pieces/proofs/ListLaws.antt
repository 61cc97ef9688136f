-- Lists without one element, and what a map or a filter contains.
use Rattle.std.proofs.Common.{◌≡◌, ◌≢◌, ◌<◌, ◌⊎◌, inl, inr, ℕ, zero, suc, List, [], ◌∷◌, Bool, true}
use Rattle.std.proofs.Common.{false, cond, length, get_or, map, drop, refl, sym, ap, ◌∙◌, subst, arith}
use Rattle.std.specs.List.{All, AllPairs, Contains, filter}
use Rattle.std.proofs.lemmas.List.{get_or-map, length-map}
use Rattle.std.proofs.lemmas.List.Elements.{All-head, All-tail, All-nil, All-cons}
use Rattle.express_words.specs.Bytes.{xor_bytes}
use Rattle.subset_search.specs.Subsets.{added}
use Rattle.subset_search.proofs.SumLaws.{added-xor}

-- a list without its element at i
abbrev pub without : {A : Type 0} → List A → ℕ → List A
without [] i = []
without (x ∷ xs) zero = xs
without (x ∷ xs) (suc i) = x ∷ without xs i

pub added-without : (s : List ℕ) (xs : List (List ℕ)) (i : ℕ) → i < length xs →
    added s xs ≡ xor_bytes (added s (without xs i)) (get_or xs i [])
added-without s [] i lt = absurd (omega arith)
added-without s (x ∷ xs) zero lt = added-xor s x xs
added-without s (x ∷ xs) (suc i) lt = added-without (xor_bytes s x) xs i (omega arith)

pub All-without : {A : Type 0} (P : A → Type 0) (xs : List A) (i : ℕ) → All P xs → All P (without xs i)
All-without P [] i all = all
All-without P (x ∷ xs) zero all = All-tail P x xs all
All-without P (x ∷ xs) (suc i) all = All-cons P x (without xs i) (All-head P x xs all)
    (All-without P xs i (All-tail P x xs all))

pairs_tail : {A : Type 0} (x : A) (xs : List A) → AllPairs (λ a b. a ≢ b) (x ∷ xs) → AllPairs (λ a b. a ≢ b)
    xs
pairs_tail x xs pairs i j d lt le = pairs (suc i) (suc j) d (omega arith) (omega arith)

pairs_head : {A : Type 0} (x : A) (xs : List A) → AllPairs (λ a b. a ≢ b) (x ∷ xs) → All (λ y. x ≢ y) xs
pairs_head x xs pairs k d lt = pairs 0 (suc k) d (omega arith) (omega arith)

pub pairs_cons : {A : Type 0} (x : A) (xs : List A) → All (λ y. x ≢ y) xs → AllPairs (λ a b. a ≢ b) xs
    → AllPairs (λ a b. a ≢ b) (x ∷ xs)
pairs_cons x xs apart pairs i zero d lt le = absurd (omega arith)
pairs_cons x xs apart pairs zero (suc j) d lt le = apart j d (omega arith)
pairs_cons x xs apart pairs (suc i) (suc j) d lt le = pairs i j d (omega arith) (omega arith)

pub pairs_without : {A : Type 0} (xs : List A) (i : ℕ) → AllPairs (λ a b. a ≢ b) xs → AllPairs (λ a b. a ≢ b)
    (without xs i)
pairs_without [] i pairs = pairs
pairs_without (x ∷ xs) zero pairs = pairs_tail x xs pairs
pairs_without (x ∷ xs) (suc i) pairs =
    pairs_cons x (without xs i) (All-without (λ y. x ≢ y) xs i (pairs_head x xs pairs))
    (pairs_without xs i (pairs_tail x xs pairs))

-- what is left differs from what was taken out
pub apart-without : {A : Type 0} (xs : List A) (i : ℕ) (d : A) → i < length xs → AllPairs (λ a b. a ≢ b) xs →
    All (λ y. y ≢ get_or xs i d) (without xs i)
apart-without [] i d lt pairs = absurd (omega arith)
apart-without (x ∷ xs) zero d lt pairs = λ k e le same. pairs_head x xs pairs k e le (sym same)
apart-without (x ∷ xs) (suc i) d lt pairs =
    All-cons (λ y. y ≢ get_or xs i d) x (without xs i) (pairs_head x xs pairs i d (omega arith))
    (apart-without xs i d (omega arith) (pairs_tail x xs pairs))

pub Contains-map : {A B : Type 0} (f : A → B) (xs : List A) (x : A) → Contains xs x → Contains (map f xs)
    (f x)
Contains-map f xs x (k, lt, is) = (
  k,
  let long : length (map f xs) ≡ length xs = length-map xs f in omega arith,
  get_or-map f xs k x (f x)
      lt ∙ ap f is,
)

pub Contains-from_map : {A B : Type 0} (f : A → B) (xs : List A) (y : B) → Contains (map f xs) y →
    (x : A) × Contains xs x × (f x ≡ y)
Contains-from_map f [] y (k, lt, is) = absurd (omega arith)
Contains-from_map f (x ∷ xs) y (zero, lt, is) = (x, (0, omega arith, refl), is)
Contains-from_map f (x ∷ xs) y (suc k, lt, is) =
    let there = Contains-from_map f xs y (k, omega arith, is) in
    (there.0, (suc there.1.0, let lt' = there.1.1 in omega arith, there.1.2), there.2)

pub Contains-filter : {A : Type 0} (test : A → Bool) (xs : List A) (x : A) → Contains xs x → test x ≡ true
    → Contains (filter test xs) x
Contains-filter test [] x (k, lt, is) passes = absurd (omega arith)
Contains-filter test (y ∷ xs) x (zero, lt, is) passes =
    subst (λ b. Contains (cond b (y ∷ filter test xs) (filter test xs)) x) (sym (ap test is ∙ passes))
    (0, omega arith, is)
Contains-filter test (y ∷ xs) x (suc k, lt, is) passes =
    later (test y) (Contains-filter test xs x (k, omega arith, is) passes)
  where
    later : (b : Bool) → Contains (filter test xs) x → Contains (cond b (y ∷ filter test xs) (filter test xs))
        x
    later true (j, le, at) = (suc j, omega arith, at)
    later false there = there

-- where each element has the one or there is the other, all have the one or there is the other
pub all_or : {A : Type 0} (P : A → Type 0) (C : Type 0) (xs : List A) → All (λ x. P x ⊎ C) xs → All P xs ⊎ C
all_or P C [] all = inl (All-nil P)
all_or P C (x ∷ xs) all = elim (All-head (λ x. P x ⊎ C) x xs all) [
  | inl here ↦ elim (all_or P C xs (All-tail (λ x. P x ⊎ C) x xs all)) [
    | inl rest ↦ inl (All-cons P x xs here rest)
    | inr c ↦ inr c
  ]
  | inr c ↦ inr c
]

pub drop_none : {A : Type 0} (n : ℕ) (xs : List A) → n ≡ 0 → drop n xs ≡ xs
drop_none n xs is = subst (λ k. drop k xs ≡ xs) (sym is) (nothing xs)
  where
    nothing : {A : Type 0} (ys : List A) → drop 0 ys ≡ ys
    nothing [] = refl
    nothing (y ∷ ys) = refl
