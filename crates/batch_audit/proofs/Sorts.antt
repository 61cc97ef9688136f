-- What a sort rejects, and how many ranges it judges.
use Rattle.std.specs.Prelude.{◌≡◌, ℕ, ◌+◌, ◌-◌, ◌*◌, ◌<◌, ◌≤◌, ◌^◌, if◌then◌else◌, Bool, true, false, List, [], ◌∷◌, ◌++◌, length, All, take, drop, bit_xor, refl}
use Rattle.std.proofs.Common.{zero, suc, ◌∙◌, ap, sym, subst, get_or, inl, inr, arith, length-take, length-drop}
use Rattle.std.proofs.lemmas.Bool.{cases_lt}
use Rattle.std.proofs.lemmas.List.{get_or-take, get_or-drop, take-append-drop}
use Rattle.std.proofs.lemmas.List.Elements.{All-nil, All-cons, All-head, All-tail, All-take, All-drop}
use Rattle.express_words.specs.declared.audit.Closing.{Closing}
use Rattle.audit_rules.specs.Audit.{accepts}
use Rattle.dpf_rules.specs.Bytes.{number_of}
use Rattle.chacha_expand.proofs.StreamLemmas.{stream_front}
use Rattle.dpf_rules.proofs.RangeLemmas.{stream_word_lt}
use Rattle.batch_audit.specs.Batch.{os, taus, batch, count_bad, BatchPasses, rho_at}
use Rattle.batch_audit.specs.Sorting.{Sorted, RejectedAreBad, OthersAreGoodOrMissed, SortsAreOne, here, in_left, in_right, empty, passed, alone, split}
use Rattle.batch_audit.proofs.Values.{InField, OSums, TauSums, good_one, good_back, zero_everywhere}

-- ---- good pairs pass

none_of : (b : Bool) (n : ℕ) → (if b then 0 else 1) + n ≡ 0 → (b ≡ true) × (n ≡ 0)
none_of true n h = (refl, omega (arith, h))
none_of false n h = absurd (omega (arith, h))

zeros_of : (zero one : List Closing) → count_bad zero one ≡ 0 → length one ≡ length zero → All (λ n. n ≡ 0) (OSums zero one) × All (λ n. n ≡ 0) (TauSums zero one)
zeros_of [] [] h l = (All-nil (λ n. n ≡ 0), All-nil (λ n. n ≡ 0))
zeros_of [] (d ∷ ds) h l = absurd (omega arith)
zeros_of (c ∷ cs) [] h l = absurd (omega arith)
zeros_of (c ∷ cs) (d ∷ ds) h l =
    let parts = none_of (accepts c d) (count_bad cs ds) h in
    let here = good_back c d parts.0 in
    let rest = zeros_of cs ds parts.1 (omega arith) in
    (All-cons (λ n. n ≡ 0) (bit_xor c.o d.o) (OSums cs ds) here.0 rest.0, All-cons (λ n. n ≡ 0) (bit_xor c.tau d.tau) (TauSums cs ds) here.1 rest.1)

abbrev pub InRange : List Closing → Type 0
InRange cs = InField (os cs) × InField (taus cs)

pub good_pass : (zero one : List Closing) (rho : ℕ) → InRange zero → InRange one → rho < 2 ^ 128 → length one ≡ length zero → count_bad zero one ≡ 0 → BatchPasses zero one rho
good_pass cs ds rho h0 h1 hr l good =
    let zeros = zeros_of cs ds good l in
    good_one (batch cs rho) (batch ds rho) (zero_everywhere (os cs) (os ds) rho h0.0 h1.0 hr zeros.0) (zero_everywhere (taus cs) (taus ds) rho h0.1 h1.1 hr zeros.1)

-- ---- parts of a list

os_take : (n : ℕ) (cs : List Closing) → os (take n cs) ≡ take n (os cs)
os_take zero cs = refl
os_take (suc n) [] = refl
os_take (suc n) (c ∷ cs) = ap (λ ns. c.o ∷ ns) (os_take n cs)

taus_take : (n : ℕ) (cs : List Closing) → taus (take n cs) ≡ take n (taus cs)
taus_take zero cs = refl
taus_take (suc n) [] = refl
taus_take (suc n) (c ∷ cs) = ap (λ ns. c.tau ∷ ns) (taus_take n cs)

os_drop : (n : ℕ) (cs : List Closing) → os (drop n cs) ≡ drop n (os cs)
os_drop zero cs = refl
os_drop (suc n) [] = refl
os_drop (suc n) (c ∷ cs) = os_drop n cs

taus_drop : (n : ℕ) (cs : List Closing) → taus (drop n cs) ≡ drop n (taus cs)
taus_drop zero cs = refl
taus_drop (suc n) [] = refl
taus_drop (suc n) (c ∷ cs) = taus_drop n cs

pub range_take : (n : ℕ) (cs : List Closing) → InRange cs → InRange (take n cs)
range_take n cs h = (subst InField (sym (os_take n cs)) (All-take (λ n. n < 2 ^ 128) n (os cs) h.0), subst InField (sym (taus_take n cs)) (All-take (λ n. n < 2 ^ 128) n (taus cs) h.1))

pub range_drop : (n : ℕ) (cs : List Closing) → InRange cs → InRange (drop n cs)
range_drop n cs h = (subst InField (sym (os_drop n cs)) (All-drop (λ n. n < 2 ^ 128) n (os cs) h.0), subst InField (sym (taus_drop n cs)) (All-drop (λ n. n < 2 ^ 128) n (taus cs) h.1))

no_pairs : (cs : List Closing) → count_bad cs [] ≡ 0
no_pairs [] = refl
no_pairs (c ∷ cs) = refl

count_parts : (n : ℕ) (zero one : List Closing) → count_bad zero one ≡ count_bad (take n zero) (take n one) + count_bad (drop n zero) (drop n one)
count_parts zero cs ds = omega arith
count_parts (suc n) [] ds = refl
count_parts (suc n) (c ∷ cs) [] = ap (λ k. 0 + k) (sym (no_pairs (drop n cs)))
count_parts (suc n) (c ∷ cs) (d ∷ ds) = omega (arith, count_parts n cs ds)

-- ---- how many ranges

-- a range that doesn't pass has a pair that isn't good
pub some_bad : (zero one : List Closing) (rho : ℕ) → InRange zero → InRange one → rho < 2 ^ 128 → length one ≡ length zero → ¬ BatchPasses zero one rho → 0 < count_bad zero one
some_bad cs ds rho h0 h1 hr l fails =
    elim (cases_lt 0 (count_bad cs ds)) [ inl h ↦ h | inr h ↦ absurd (fails (good_pass cs ds rho h0 h1 hr l (omega arith))) ]

split_bound : (n middle m a b e : ℕ) → 0 < a + b → middle ≤ n + 1 + (1 + 2 * (a * e)) → m ≤ middle + (1 + 2 * (b * e)) → m ≤ n + (1 + 2 * ((a + b) * suc e))
split_bound n middle m a b e h l r = grind arith

module _ (seed : List ℕ) (in_field : (n : ℕ) → rho_at seed n < 2 ^ 128) where
  pub few_ranges : (e : ℕ) (zero one : List Closing) (rejected : List Bool) (n m : ℕ) → Sorted seed zero one rejected n m → InRange zero → InRange one → length one ≡ length zero →
      length zero ≤ 2 ^ e → m ≤ n + (1 + 2 * (count_bad zero one * e))
  few_ranges e cs ds rejected n m (empty k h) h0 h1 l fits = omega (arith, h)
  few_ranges e cs ds rejected n m (passed k p r h) h0 h1 l fits = omega (arith, h)
  few_ranges e cs ds rejected n m (alone p k r h) h0 h1 l fits = omega (arith, h)
  few_ranges zero cs ds rejected n m (split half middle fails long is_half first rest) h0 h1 l fits = absurd (omega arith)
  few_ranges (suc e) cs ds rejected n m (split half middle fails long is_half first rest) h0 h1 l fits =
      let power : 2 ^ suc e ≡ 2 * 2 ^ e = grind arith in
      let halves : (half ≤ 2 ^ e) × (length cs ≤ half + 2 ^ e) × (half ≤ length cs) = (omega (arith, is_half, power), omega (arith, is_half, power), omega (arith, is_half)) in
      let bad = some_bad cs ds (rho_at seed n) h0 h1 (in_field n) l fails in
      let parts = count_parts half cs ds in
      let left = few_ranges e (take half cs) (take half ds) (take half rejected) (n + 1) middle first (range_take half cs h0) (range_take half ds h1) (simp (length-take, l) refl)
      (omega (arith, length-take half cs, halves.0, halves.2)) in
      let right = few_ranges e (drop half cs) (drop half ds) (drop half rejected) middle m rest (range_drop half cs h0) (range_drop half ds h1) (simp (length-drop, l) refl)
      (omega (arith, length-drop half cs, halves.1)) in
      subst (λ k. m ≤ n + (1 + 2 * (k * suc e))) (sym parts)
      (split_bound n middle m (count_bad (take half cs) (take half ds)) (count_bad (drop half cs) (drop half ds)) e (omega (arith, parts, bad)) left right)

  -- ---- what is rejected
  pub rejected_bad : (zero one : List Closing) (rejected : List Bool) (n m : ℕ) → Sorted seed zero one rejected n m → InRange zero → InRange one → length one ≡ length zero → length rejected ≡ length zero →
      (i : ℕ) (c : Closing) (r : Bool) → i < length zero → get_or rejected i r ≡ true → accepts (get_or zero i c) (get_or one i c) ≡ true → ⊥
  rejected_bad cs ds rejected n m (empty k h) h0 h1 l s i c r inside is good = omega arith
  rejected_bad cs ds rejected n m (passed k p all h) h0 h1 l s i c r inside is good = let no = all i r (omega arith) in cc
  rejected_bad [] one rejected n m (alone p k all h) h0 h1 l s i c r inside is good = omega arith
  rejected_bad (x ∷ (w ∷ cs)) one rejected n m (alone p k all h) h0 h1 l s i c r inside is good = omega arith
  rejected_bad (x ∷ []) [] rejected n m (alone p k all h) h0 h1 l s i c r inside is good = omega arith
  rejected_bad (x ∷ []) (y ∷ (w ∷ ds)) rejected n m (alone p k all h) h0 h1 l s i c r inside is good = omega arith
  rejected_bad (x ∷ []) (y ∷ []) rejected n m (alone p k all h) h0 h1 l s (suc i) c r inside is good = omega arith
  rejected_bad (x ∷ []) (y ∷ []) rejected n m (alone p k all h) h0 h1 l s zero c r inside is good =
      let bad = some_bad (x ∷ []) (y ∷ []) (rho_at seed n) h0 h1 (in_field n) l p in
      omega (arith, bad, ap (λ b. (if b then 0 else 1) + 0) good)
  rejected_bad cs ds rejected n m (split half middle fails long is_half first rest) h0 h1 l s i c r inside is good =
      elim (cases_lt i half) [
        | inl before ↦
            rejected_bad (take half cs) (take half ds) (take half rejected) (n + 1) middle first (range_take half cs h0) (range_take half ds h1) (simp (length-take, l) refl) (simp (length-take, s) refl)
            i c r (omega (arith, length-take half cs, is_half)) (get_or-take half rejected i r before ∙ is)
            (ap (λ v. accepts v (get_or (take half ds) i c)) (get_or-take half cs i c before) ∙ ap (accepts (get_or cs i c)) (get_or-take half ds i c before) ∙ good)
        | inr after ↦
            let j = i - half in
            let back : half + j ≡ i = omega (arith, after) in
            rejected_bad (drop half cs) (drop half ds) (drop half rejected) middle m rest (range_drop half cs h0) (range_drop half ds h1) (simp (length-drop, l) refl) (simp (length-drop, s) refl)
            j c r (omega (arith, length-drop half cs, back, inside)) (get_or-drop half rejected j r ∙ ap (λ k. get_or rejected k r) back ∙ is)
            (ap (λ v. accepts v (get_or (drop half ds) j c)) (get_or-drop half cs j c ∙ ap (λ k. get_or cs k c) back) ∙ ap (accepts (get_or cs i c)) (get_or-drop half ds j c ∙ ap (λ k. get_or ds k c) back) ∙ good)
      ]

pub rho_in_field : (seed : List ℕ) (n : ℕ) → rho_at seed n < 2 ^ 128
rho_in_field seed n = subst (λ k. k < 2 ^ 128) (sym (ap number_of (stream_front seed n 0 16 32 (omega arith)))) (stream_word_lt seed n 0)

false_of : (b : Bool) → (b ≡ true → ⊥) → b ≡ false
false_of true h = absurd (h refl)
false_of false h = refl

pub rejected_are_bad : (seed : List ℕ) (zs os : List Closing) (rejected : List Bool) (n m : ℕ) → Sorted seed zs os rejected n m → InRange zs → InRange os → length os ≡ length zs → length rejected ≡ length zs → RejectedAreBad zs os rejected
rejected_are_bad seed cs ds rejected n m s h0 h1 l k i c r inside is =
    false_of (accepts (get_or cs i c) (get_or ds i c)) (rejected_bad seed (rho_in_field seed) cs ds rejected n m s h0 h1 l k i c r inside is)

-- ---- what is not rejected

good_in : (cs ds : List Closing) → count_bad cs ds ≡ 0 → length ds ≡ length cs → (i : ℕ) (c : Closing) → i < length cs → accepts (get_or cs i c) (get_or ds i c) ≡ true
good_in [] ds h l i c inside = absurd (omega arith)
good_in (x ∷ cs) [] h l i c inside = absurd (omega arith)
good_in (x ∷ cs) (y ∷ ds) h l zero c inside = (none_of (accepts x y) (count_bad cs ds) h).0
good_in (x ∷ cs) (y ∷ ds) h l (suc i) c inside = good_in cs ds (none_of (accepts x y) (count_bad cs ds) h).1 (omega arith) i c (omega arith)

one_false : (rejected : List Bool) (i : ℕ) (r : Bool) → rejected ≡ true ∷ [] → i < 1 → get_or rejected i r ≡ false → ⊥
one_false rejected zero r e h f = let no : true ≡ false = sym (ap (λ l. get_or l 0 r) e) ∙ f in cc
one_false rejected (suc i) r e h f = omega arith

pub others : (seed : List ℕ) (cs ds : List Closing) (rejected : List Bool) (n m : ℕ) → Sorted seed cs ds rejected n m → length ds ≡ length cs → length rejected ≡ length cs → OthersAreGoodOrMissed seed cs ds rejected n
others seed cs ds rejected n m (empty k h) l s i c r inside is = absurd (omega arith)
others seed cs ds rejected n m (passed k p all h) l s i c r inside is =
    elim (cases_lt 0 (count_bad cs ds)) [ inl bad ↦ inr (here inside p bad) | inr good ↦ inl (good_in cs ds (omega (arith, good)) l i c inside) ]
others seed cs ds rejected n m (alone p k all h) l s i c r inside is = absurd (one_false rejected i r all (omega (arith, k)) is)
others seed cs ds rejected n m (split half middle fails long is_half first rest) l s i c r inside is =
    elim (cases_lt i half) [
      | inl before ↦
          elim (others seed (take half cs) (take half ds) (take half rejected) (n + 1) middle first (simp (length-take, l) refl) (simp (length-take, s) refl)
          i c r (omega (arith, length-take half cs, is_half)) (get_or-take half rejected i r before ∙ is)) [
            | inl good ↦ inl (sym (ap (λ v. accepts v (get_or (take half ds) i c)) (get_or-take half cs i c before) ∙ ap (accepts (get_or cs i c)) (get_or-take half ds i c before)) ∙ good)
            | inr missed ↦ inr (in_left half fails long is_half before missed)
          ]
      | inr after ↦
          let j = i - half in
          let back : half + j ≡ i = omega (arith, after) in
          elim (others seed (drop half cs) (drop half ds) (drop half rejected) middle m rest (simp (length-drop, l) refl) (simp (length-drop, s) refl)
          j c r (omega (arith, length-drop half cs, back, inside)) (get_or-drop half rejected j r ∙ ap (λ k. get_or rejected k r) back ∙ is)) [
            | inl good ↦
                inl (sym (ap (λ v. accepts v (get_or (drop half ds) j c)) (get_or-drop half cs j c ∙ ap (λ k. get_or cs k c) back) ∙ ap (accepts (get_or cs i c)) (get_or-drop half ds j c ∙ ap (λ k. get_or ds k c) back)) ∙ good)
            | inr missed ↦ inr (in_right half middle fails long is_half after first missed)
          ]
    ]

-- ---- a sort has one outcome

all_false : (r r' : List Bool) → All (λ x. x ≡ false) r → All (λ x. x ≡ false) r' → length r ≡ length r' → r ≡ r'
all_false [] [] h h' l = refl
all_false [] (y ∷ ys) h h' l = absurd (omega arith)
all_false (x ∷ xs) [] h h' l = absurd (omega arith)
all_false (x ∷ xs) (y ∷ ys) h h' l =
    let first : x ≡ y = All-head (λ v. v ≡ false) x xs h ∙ sym (All-head (λ v. v ≡ false) y ys h') in
    let rest : xs ≡ ys = all_false xs ys (All-tail (λ v. v ≡ false) x xs h) (All-tail (λ v. v ≡ false) y ys h') (omega arith) in
    cc

no_items : (r r' : List Bool) → length r ≡ 0 → length r' ≡ 0 → r ≡ r'
no_items [] [] h h' = refl
no_items [] (y ∷ ys) h h' = absurd (omega arith)
no_items (x ∷ xs) r' h h' = absurd (omega arith)

halves : (h : ℕ) (r r' : List Bool) → take h r ≡ take h r' → drop h r ≡ drop h r' → r ≡ r'
halves h r r' e f = sym (take-append-drop h r) ∙ ap (λ (t : List Bool). t ++ drop h r) e ∙ ap (λ (t : List Bool). take h r' ++ t) f ∙ take-append-drop h r'

pub sorts_are_one : SortsAreOne
sorts_are_one seed cs ds r r' n m m' l l' (empty k e) (empty k' e') = (no_items r r' (omega arith) (omega arith), omega arith)
sorts_are_one seed cs ds r r' n m m' l l' (empty k e) (passed k' p' a' e') = absurd (omega arith)
sorts_are_one seed cs ds r r' n m m' l l' (empty k e) (alone f' k' a' e') = absurd (omega arith)
sorts_are_one seed cs ds r r' n m m' l l' (empty k e) (split half' middle' f' k' is' s' t') = absurd (omega arith)
sorts_are_one seed cs ds r r' n m m' l l' (passed k p a e) (empty k' e') = absurd (omega arith)
sorts_are_one seed cs ds r r' n m m' l l' (passed k p a e) (passed k' p' a' e') = (all_false r r' a a' (omega arith), omega arith)
sorts_are_one seed cs ds r r' n m m' l l' (passed k p a e) (alone f' k' a' e') = absurd (f' p)
sorts_are_one seed cs ds r r' n m m' l l' (passed k p a e) (split half' middle' f' k' is' s' t') = absurd (f' p)
sorts_are_one seed cs ds r r' n m m' l l' (alone f k a e) (empty k' e') = absurd (omega arith)
sorts_are_one seed cs ds r r' n m m' l l' (alone f k a e) (passed k' p' a' e') = absurd (f p')
sorts_are_one seed cs ds r r' n m m' l l' (alone f k a e) (alone f' k' a' e') = (a ∙ sym a', omega arith)
sorts_are_one seed cs ds r r' n m m' l l' (alone f k a e) (split half' middle' f' k' is' s' t') = absurd (omega arith)
sorts_are_one seed cs ds r r' n m m' l l' (split half middle f k is s t) (empty k' e') = absurd (omega arith)
sorts_are_one seed cs ds r r' n m m' l l' (split half middle f k is s t) (passed k' p' a' e') = absurd (f p')
sorts_are_one seed cs ds r r' n m m' l l' (split half middle f k is s t) (alone f' k' a' e') = absurd (omega arith)
sorts_are_one seed cs ds r r' n m m' l l' (split half middle f k is s t) (split half' middle' f' k' is' s' t') =
    let same : half' ≡ half = is' ∙ sym is in
    let s'' : Sorted seed (take half cs) (take half ds) (take half r') (n + 1) middle' =
    subst (λ h. Sorted seed (take h cs) (take h ds) (take h r') (n + 1) middle') same s' in
    let front = sorts_are_one seed (take half cs) (take half ds) (take half r) (take half r') (n + 1) middle middle'
    (omega (arith, length-take half r, length-take half cs, l)) (omega (arith, length-take half r', length-take half cs, l')) s s'' in
    let t'' : Sorted seed (drop half cs) (drop half ds) (drop half r') middle m' =
    subst (λ k. Sorted seed (drop half cs) (drop half ds) (drop half r') k m') (sym front.1) (subst (λ h. Sorted seed (drop h cs) (drop h ds) (drop h r') middle' m') same t') in
    let back = sorts_are_one seed (drop half cs) (drop half ds) (drop half r) (drop half r') middle m m'
    (omega (arith, length-drop half r, length-drop half cs, l)) (omega (arith, length-drop half r', length-drop half cs, l')) t t'' in
    (halves half r r' front.0 back.0, back.1)
