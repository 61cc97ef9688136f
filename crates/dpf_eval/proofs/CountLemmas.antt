-- How many different numbers a list has: by what it holds, and by the changes along a rising list.
use Rattle.std.proofs.Common.{◌≡◌, ℕ, suc, ◌+◌, ◌<◌, ◌≤◌, Bool, true, false, cond, List, [], ◌∷◌, length, refl, ◌∙◌, ap, arith, inl, inr}
use Rattle.std.specs.Prelude.{◌==◌, ◌||◌, not, nat_le, slice_index, count_by, if◌then◌else◌}
use Rattle.std.proofs.lemmas.List.Sums.{sum_by-cons}
use Rattle.std.specs.List.{IsDistinct}
use Rattle.std.specs.Set.{is_member, unique_keys, distinct_count}
use Rattle.std.specs.List as lists
use Rattle.std.proofs.lemmas.Bool.{eqb-true, eq-eqb, ne_eqb, true≢false, cases_order}
use Rattle.std.proofs.lemmas.Cmp.{nat_eq_equiv}
use Rattle.std.proofs.lemmas.Map.Made.{length-from_keys}

-- ---- by what a list holds

is_member-unique : (xs : List ℕ) (q : ℕ) → is_member ◌==◌ (unique_keys ◌==◌ xs) q ≡ is_member ◌==◌ xs q
is_member-unique [] q = refl
is_member-unique (x ∷ xs) q = by (is_member ◌==◌ xs x) (q == x) refl refl (is_member-unique xs q)
  where
    by : (b c : Bool) → is_member ◌==◌ xs x ≡ b → (q == x) ≡ c → is_member ◌==◌ (unique_keys ◌==◌ xs) q ≡ is_member ◌==◌ xs q
        → is_member ◌==◌ (cond b (unique_keys ◌==◌ xs) (x ∷ unique_keys ◌==◌ xs)) q ≡ (c || is_member ◌==◌ xs q)
    by true true m t r = r ∙ ap (λ (y : ℕ). is_member ◌==◌ xs y) (eqb-true q x t) ∙ m
    by true false m t r = r
    by false c m t r = rw t (ap (λ (v : Bool). c || v) r)

apart_from_absent : (x : ℕ) (ys : List ℕ) → is_member ◌==◌ ys x ≡ false → lists.AllByRecursion (λ y. (x == y) ≡ false) ys
apart_from_absent x [] h = tt
apart_from_absent x (y ∷ ys) h = by (x == y) refl h (apart_from_absent x ys)
  where
    by : (b : Bool) → (x == y) ≡ b → (b || is_member ◌==◌ ys x) ≡ false
        → (is_member ◌==◌ ys x ≡ false → lists.AllByRecursion (λ y. (x == y) ≡ false) ys)
        → ((x == y) ≡ false) × lists.AllByRecursion (λ y. (x == y) ≡ false) ys
    by true t g r = absurd (true≢false g)
    by false t g r = (t, r g)

IsDistinct-unique : (xs : List ℕ) → IsDistinct ◌==◌ (unique_keys ◌==◌ xs)
unfolding IsDistinct
IsDistinct-unique [] = tt
IsDistinct-unique (x ∷ xs) = by (is_member ◌==◌ xs x) refl (IsDistinct-unique xs)
  where
    by : (b : Bool) → is_member ◌==◌ xs x ≡ b → IsDistinct ◌==◌ (unique_keys ◌==◌ xs)
        → IsDistinct ◌==◌ (cond b (unique_keys ◌==◌ xs) (x ∷ unique_keys ◌==◌ xs))
    by true m r = r
    by false m r = (apart_from_absent x (unique_keys ◌==◌ xs) (is_member-unique xs x ∙ m), r)

-- lists that hold the same have as many different numbers
pub same_distinct_count : (xs ys : List ℕ) → ((q : ℕ) → is_member ◌==◌ xs q ≡ is_member ◌==◌ ys q)
    → distinct_count ◌==◌ xs ≡ distinct_count ◌==◌ ys
same_distinct_count xs ys same =
    length-from_keys nat_eq_equiv (unique_keys ◌==◌ xs) ys (IsDistinct-unique xs) (λ q. is_member-unique xs q ∙ same q)

-- ---- along a rising list

abbrev pub Rises : ℕ → List ℕ → Type 0
Rises p [] = Unit {0}
Rises p (q ∷ qs) = (p ≤ q) × Rises q qs

-- how often a list changes from one number to the next
abbrev pub changes : ℕ → List ℕ → ℕ
changes p [] = 0
changes p (q ∷ qs) = (if p == q then 0 else 1) + changes q qs

not_below : (p q : ℕ) (qs : List ℕ) → p < q → Rises q qs → is_member ◌==◌ (q ∷ qs) p ≡ false
not_below p q [] less rises = rw (ne_eqb p q (omega arith)) refl
not_below p q (r ∷ rs) less rises = rw (ne_eqb p q (omega arith)) (not_below p r rs (omega arith) rises.1)

pub distinct_count-rising : (p : ℕ) (ps : List ℕ) → Rises p ps → distinct_count ◌==◌ (p ∷ ps) ≡ suc (changes p ps)
distinct_count-rising p [] rises = refl
distinct_count-rising p (q ∷ qs) rises = elim (cases_order p q) [
  | inl same ↦
      let here : (p == q) ≡ true = eq-eqb p q same in
      rw here (distinct_count-rising q qs rises.1 ∙ omega arith)
  | inr (inl less) ↦
      let here : (p == q) ≡ false = ne_eqb p q (omega arith) in
      let new : is_member ◌==◌ (q ∷ qs) p ≡ false = not_below p q qs less rises.1 in
      rw (new, here) (ap (λ (n : ℕ). suc n) (distinct_count-rising q qs rises.1) ∙ omega arith)
  | inr (inr more) ↦ absurd (omega arith)
]

-- as many entries split as the list changes
pub count-changes : (level p : ℕ) (ps splits : List ℕ) → length splits ≡ length ps
    → ((k : ℕ) → k < length ps → nat_le (slice_index splits k) level ≡ not (slice_index (p ∷ ps) k == slice_index ps k))
    → count_by (λ s. nat_le s level) splits ≡ changes p ps
count-changes level p [] [] same each = refl
count-changes level p [] (s ∷ ss) same each = absurd (omega arith)
count-changes level p (q ∷ qs) [] same each = absurd (omega arith)
count-changes level p (q ∷ qs) (s ∷ ss) same each =
    let here : nat_le s level ≡ not (p == q) = each 0 (omega arith) in
    let rest : count_by (λ s. nat_le s level) ss ≡ changes q qs =
    count-changes level q qs ss (omega arith) (λ k below. each (suc k) (omega arith)) in
    sum_by-cons (λ (s : ℕ). cond (nat_le s level) 1 0) s ss ∙ rw (here, rest) (turned (p == q) (changes q qs))
  where
    turned : (b : Bool) (n : ℕ) → cond (not b) 1 0 + n ≡ (if b then 0 else 1) + n
    turned true n = refl
    turned false n = refl
