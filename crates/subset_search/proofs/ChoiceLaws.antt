-- What the choices of some boxes add, and that each subset is a choice.
use Rattle.std.proofs.Common.{◌≡◌, ◌≢◌, ◌<◌, ◌≤◌, ◌⊎◌, inl, inr, ℕ, zero, suc, List, [], ◌∷◌, Bool, true}
use Rattle.std.proofs.Common.{false, cond, not, length, get_or, set, replicate, refl, sym, ap, ◌∙◌, subst}
use Rattle.std.proofs.Common.{arith, length-set, get_or-set_same, get_or-set_other}
use Rattle.std.specs.List.{Contains}
use Rattle.std.proofs.lemmas.Bool.{cases_lt, cases_eq, cases_Bool, false≢true}
use Rattle.std.proofs.lemmas.List.{get_or_default, length-replicate, get_or-replicate}
use Rattle.std.proofs.lemmas.List.Elements.{All-head, All-tail, All-nil, All-cons, All-get_or}
use Rattle.express_words.specs.Bytes.{xor_bytes}
use Rattle.subset_search.specs.Subsets.{added, IsSubset, HasNone, chosen_below}
use Rattle.subset_search.proofs.SumLaws.{AreWide, xor_swap, xor_back, added-xor, length-added}

pub chosen_below-same : (n : ℕ) (boxes : List (List ℕ)) (a b : List Bool) →
    ((k : ℕ) → k < n → get_or a k false ≡ get_or b k false) → chosen_below n boxes a ≡ chosen_below n boxes b
chosen_below-same zero boxes a b h = refl
chosen_below-same (suc n) boxes a b h =
    ap (λ (t : Bool). cond t (get_or boxes n [] ∷ chosen_below n boxes a) (chosen_below n boxes a))
    (h n (omega arith))
    ∙ ap (λ (t : List (List ℕ)). cond (get_or b n false) (get_or boxes n [] ∷ t) t)
    (chosen_below-same n boxes a b (λ k lt. h k (omega arith)))

-- a change at i changes nothing below it
pub chosen_below-set : (n i : ℕ) (boxes : List (List ℕ)) (a : List Bool) (v : Bool) → n ≤ i →
    chosen_below n boxes (set a i v) ≡ chosen_below n boxes a
chosen_below-set n i boxes a v le =
    chosen_below-same n boxes (set a i v) a (λ k lt. let ne : k ≢ i = omega arith in get_or-set_other a i k v
    false ne)

pub chosen_below-none : (n : ℕ) (boxes : List (List ℕ)) (a : List Bool) →
    ((k : ℕ) → get_or a k false ≡ false) → chosen_below n boxes a ≡ []
chosen_below-none zero boxes a h = refl
chosen_below-none (suc n) boxes a h =
    ap (λ (t : Bool). cond t (get_or boxes n [] ∷ chosen_below n boxes a) (chosen_below n boxes a)) (h n)
    ∙ chosen_below-none n boxes a h

wide_cond : (w : ℕ) (b : Bool) (p : List ℕ) (ps : List (List ℕ)) → length p ≡ w → AreWide w ps
    → AreWide w (cond b (p ∷ ps) ps)
wide_cond w true p ps h wide = All-cons (λ box. length box ≡ w) p ps h wide
wide_cond w false p ps h wide = wide

pub chosen_wide : (w n : ℕ) (boxes : List (List ℕ)) (a : List Bool) → AreWide w boxes → n ≤ length boxes
    → AreWide w (chosen_below n boxes a)
chosen_wide w zero boxes a wide le = All-nil (λ box. length box ≡ w)
chosen_wide w (suc n) boxes a wide le =
    wide_cond w (get_or a n false) (get_or boxes n []) (chosen_below n boxes a)
    (All-get_or (λ box. length box ≡ w) boxes n [] (omega arith) wide)
    (chosen_wide w n boxes a wide (omega arith))

-- a sum with one more box where it is chosen
abbrev pub with_box : Bool → List ℕ → List ℕ → List ℕ
with_box b sum box = cond b (xor_bytes sum box) sum

added_cond : (b : Bool) (s p : List ℕ) (ps : List (List ℕ)) → added s (cond b (p ∷ ps) ps)
    ≡ with_box b (added s ps) p
added_cond true s p ps = added-xor s p ps
added_cond false s p ps = refl

pub added_more : (n : ℕ) (s : List ℕ) (boxes : List (List ℕ)) (a : List Bool) →
    added s (chosen_below (suc n) boxes a) ≡ with_box (get_or a n false) (added s (chosen_below n boxes a))
    (get_or boxes n [])
added_more n s boxes a = added_cond (get_or a n false) s (get_or boxes n []) (chosen_below n boxes a)

pub added_with : (b : Bool) (s p : List ℕ) (ps : List (List ℕ)) → added (with_box b s p) ps
    ≡ with_box b (added s ps) p
added_with true s p ps = added-xor s p ps
added_with false s p ps = refl

-- adding a box twice, by two choices
twice : (w : ℕ) (a b : Bool) (s p : List ℕ) → length s ≡ w → length p ≡ w →
    (with_box a (with_box b s p) p ≡ s) ⊎ (with_box a (with_box b s p) p ≡ xor_bytes s p)
twice w true true s p hs hp = inl (xor_back w s p hs hp)
twice w true false s p hs hp = inr refl
twice w false true s p hs hp = inr refl
twice w false false s p hs hp = inl refl

-- ---- the two halves of a search

-- the sum with what is chosen of the first n
abbrev pub half : ℕ → List (List ℕ) → List ℕ → List Bool → List ℕ
half n boxes s a = added s (chosen_below n boxes a)

module _ (w n : ℕ) (boxes : List (List ℕ)) (s : List ℕ) (a : List Bool) (wide : AreWide w boxes)
    (hs : length s ≡ w)
    (lt : n < length boxes) where
  half_wide : length (half n boxes s a) ≡ w
  half_wide = length-added w s (chosen_below n boxes a) hs (chosen_wide w n boxes a wide (omega arith))

  box_wide : length (get_or boxes n []) ≡ w
  box_wide = All-get_or (λ box. length box ≡ w) boxes n [] lt wide

  whole : (b : List Bool) →
      added (added s (chosen_below (suc n) boxes a)) (chosen_below (suc n) boxes b)
      ≡ with_box (get_or b n false)
      (with_box (get_or a n false) (added (half n boxes s a) (chosen_below n boxes b)) (get_or boxes n []))
      (get_or boxes n [])
  whole b =
      added_more n (added s (chosen_below (suc n) boxes a)) boxes b
      ∙ ap (λ (t : List ℕ). with_box (get_or b n false) (added t (chosen_below n boxes b))
      (get_or boxes n [])) (added_more n s boxes a)
      ∙ ap (λ (t : List ℕ). with_box (get_or b n false) t (get_or boxes n []))
      (added_with (get_or a n false) (half n boxes s a) (get_or boxes n []) (chosen_below n boxes b))

  pub none_more : (IsSought : List ℕ → Type 0) →
      ((b : List Bool) → IsSought (added (half n boxes s a) (chosen_below n boxes b)) → ⊥) →
      ((b : List Bool)
      → IsSought (added (xor_bytes (half n boxes s a) (get_or boxes n [])) (chosen_below n boxes b)) → ⊥)
      →
      (b : List Bool)
      → IsSought (added (added s (chosen_below (suc n) boxes a)) (chosen_below (suc n) boxes b)) → ⊥
  none_more IsSought one two b sought =
      elim (twice w (get_or b n false) (get_or a n false) (added (half n boxes s a) (chosen_below n boxes b))
      (get_or boxes n [])
      (length-added w (half n boxes s a) (chosen_below n boxes b) half_wide
      (chosen_wide w n boxes b wide (omega arith))) box_wide) [
        | inl is ↦ one b (subst IsSought (whole b ∙ is) sought)
        | inr is ↦
            two b (subst IsSought
            (whole b ∙ is ∙ sym (added-xor (half n boxes s a) (get_or boxes n []) (chosen_below n boxes b)))
            sought)
      ]

  not_twice : (b : Bool) (x p : List ℕ) → length x ≡ w → length p ≡ w → with_box (not b) (xor_bytes x p) p
      ≡ with_box b x p
  not_twice true x p hx hp = refl
  not_twice false x p hx hp = xor_back w x p hx hp

  pub same_more : (t : List ℕ) (b : List Bool) → get_or b n false ≡ not (get_or a n false) →
      added t (chosen_below n boxes b) ≡ xor_bytes (half n boxes s a) (get_or boxes n []) →
      added t (chosen_below (suc n) boxes b) ≡ added s (chosen_below (suc n) boxes a)
  same_more t b bit same =
      added_more n t boxes b
      ∙ ap (λ (c : Bool). with_box c (added t (chosen_below n boxes b)) (get_or boxes n [])) bit
      ∙ ap (λ (x : List ℕ). with_box (not (get_or a n false)) x (get_or boxes n [])) same
      ∙ not_twice (get_or a n false) (half n boxes s a) (get_or boxes n []) half_wide box_wide
      ∙ sym (added_more n s boxes a)

  pub same_kept : (t : List ℕ) (b : List Bool) → get_or b n false ≡ get_or a n false →
      added t (chosen_below n boxes b) ≡ added s (chosen_below n boxes a) →
      added t (chosen_below (suc n) boxes b) ≡ added s (chosen_below (suc n) boxes a)
  same_kept t b bit same =
      added_more n t boxes b
      ∙ ap (λ (c : Bool). with_box c (added t (chosen_below n boxes b)) (get_or boxes n [])) bit
      ∙ ap (λ (x : List ℕ). with_box (get_or a n false) x (get_or boxes n [])) same
      ∙ sym (added_more n s boxes a)

-- the sum once a box is added and its mark turned
pub turned : (n : ℕ) (boxes : List (List ℕ)) (s p x : List ℕ) (a : List Bool) (v : Bool) →
    added s (chosen_below n boxes a) ≡ x → added (xor_bytes s p) (chosen_below n boxes (set a n v))
    ≡ xor_bytes x p
turned n boxes s p x a v same =
    ap (λ (t : List (List ℕ)). added (xor_bytes s p) t) (chosen_below-set n n boxes a v (omega arith))
    ∙ added-xor s p (chosen_below n boxes a)
    ∙ ap (λ (t : List ℕ). xor_bytes t p) same

-- ---- each subset is a choice

-- one more box is chosen
pub added_set : (n i : ℕ) (boxes : List (List ℕ)) (a : List Bool) (s : List ℕ) → i < n → i < length a
    → get_or a i false ≡ false →
    added s (chosen_below n boxes (set a i true)) ≡ xor_bytes (added s (chosen_below n boxes a))
    (get_or boxes i [])
added_set zero i boxes a s lt within off = absurd (omega arith)
added_set (suc n) i boxes a s lt within off = elim (cases_lt i n) [
  | inl below ↦
      let ne : n ≢ i = omega arith in
      added_more n s boxes (set a i true)
      ∙ ap (λ (c : Bool). with_box c (added s (chosen_below n boxes (set a i true))) (get_or boxes n []))
      (get_or-set_other a i n true false ne)
      ∙ ap (λ (x : List ℕ). with_box (get_or a n false) x (get_or boxes n []))
      (added_set n i boxes a s below within off)
      ∙ out (get_or a n false) (added s (chosen_below n boxes a)) (get_or boxes i []) (get_or boxes n [])
      ∙ ap (λ (x : List ℕ). xor_bytes x (get_or boxes i [])) (sym (added_more n s boxes a))
  | inr above ↦
      let is : i ≡ n = omega arith in
      subst (λ (k : ℕ). added s (chosen_below (suc n) boxes (set a k true))
      ≡ xor_bytes (added s (chosen_below (suc n) boxes a)) (get_or boxes k []))
      (sym is) (here (subst (λ (k : ℕ). k < length a) is within)
      (subst (λ (k : ℕ). get_or a k false ≡ false) is off))
]
  where
    out : (b : Bool) (x p q : List ℕ) → with_box b (xor_bytes x p) q ≡ xor_bytes (with_box b x q) p
    out true x p q = xor_swap x p q
    out false x p q = refl

    here : n < length a → get_or a n false ≡ false →
        added s (chosen_below (suc n) boxes (set a n true))
        ≡ xor_bytes (added s (chosen_below (suc n) boxes a)) (get_or boxes n [])
    here in_a none =
        added_more n s boxes (set a n true)
        ∙ ap (λ (c : Bool). with_box c (added s (chosen_below n boxes (set a n true))) (get_or boxes n []))
        (get_or-set_same a n true false in_a)
        ∙ ap (λ (t : List (List ℕ)). xor_bytes (added s t) (get_or boxes n []))
        (chosen_below-set n n boxes a true (omega arith))
        ∙ ap (λ (x : List ℕ). xor_bytes x (get_or boxes n []))
        (sym (added_more n s boxes a
        ∙ ap (λ (c : Bool). with_box c (added s (chosen_below n boxes a)) (get_or boxes n [])) none))

-- a choice of the boxes of which these are a subset
pub record IsChoice (boxes part : List (List ℕ)) (choice : List Bool) : Type 0 where
  pub long : length choice ≡ length boxes
  pub only : (i : ℕ) → i < length boxes → get_or choice i false ≡ true → Contains part (get_or boxes i [])
  pub sums : (s : List ℕ) → added s (chosen_below (length boxes) boxes choice) ≡ added s part

Contains-later : (t x : List ℕ) (part : List (List ℕ)) → Contains part x → Contains (t ∷ part) x
Contains-later t x part (k, lt, is) = (suc k, omega arith, is)

Contains-first : (t x : List ℕ) (part : List (List ℕ)) → t ≡ x → Contains (t ∷ part) x
Contains-first t x part is = (0, omega arith, is)

subset_tail : (t : List ℕ) (part boxes : List (List ℕ)) → IsSubset (t ∷ part) boxes → IsSubset part boxes
subset_tail t part boxes sub = record {
  within = All-tail (Contains boxes) t part sub.within;
  once = λ i j d lt le. sub.once (suc i) (suc j) d (omega arith) (omega arith);
}

-- the first isn't among the others
subset_apart : (t : List ℕ) (part boxes : List (List ℕ)) → IsSubset (t ∷ part) boxes → Contains part t → ⊥
subset_apart t part boxes sub (k, lt, is) = sub.once 0 (suc k) t (omega arith) (omega arith) (sym is)

none_chosen : (boxes : List (List ℕ)) (k : ℕ) → get_or (replicate (length boxes) false) k false ≡ false
none_chosen boxes k = elim (cases_lt k (length boxes)) [
  | inl lt ↦ get_or-replicate (length boxes) k false false lt
  | inr le ↦ past (replicate (length boxes) false) k (let long : length (replicate (length boxes) false)
      ≡ length boxes = length-replicate (length boxes) false in omega arith)
]
  where
    past : (a : List Bool) (i : ℕ) → length a ≤ i → get_or a i false ≡ false
    past [] i h = refl
    past (x ∷ a) zero h = absurd (omega arith)
    past (x ∷ a) (suc i) h = past a i (omega arith)

pub choice_of : (boxes part : List (List ℕ)) → IsSubset part boxes → (choice : List Bool) × IsChoice boxes
    part choice
choice_of boxes [] sub = (
  replicate (length boxes) false,
  record {
    long = length-replicate (length boxes) false;
    only = λ i lt on. absurd (false≢true (sym (none_chosen boxes i) ∙ on));
    sums = λ s. ap (added s) (chosen_below-none (length boxes) boxes (replicate (length boxes) false)
        (none_chosen boxes));
  },
)
choice_of boxes (t ∷ part) sub =
    chosen_too (All-head (Contains boxes) t part sub.within)
    (choice_of boxes part (subset_tail t part boxes sub))
  where
    chosen_too : Contains boxes t → (choice : List Bool) × IsChoice boxes part choice → (choice : List Bool) ×
        IsChoice boxes (t ∷ part) choice
    chosen_too (i, lt, at) (choice, is) =
        let read : get_or boxes i [] ≡ t = get_or_default boxes i [] t lt ∙ at in
        let off : get_or choice i false ≡ false = elim (cases_Bool (get_or choice i false)) [
          | inl on ↦ absurd (subset_apart t part boxes sub (subst (Contains part) read (is.only i lt on)))
          | inr none ↦ none
        ] in (
          set choice i true,
          record {
            long = length-set choice i true ∙ is.long;
            only = λ j within on. elim (cases_eq j i) [
              | inl same ↦ Contains-first t (get_or boxes j []) part
                  (sym (ap (λ (k : ℕ). get_or boxes k []) same ∙ read))
              | inr other ↦ Contains-later t (get_or boxes j []) part
                  (is.only j within (sym (get_or-set_other choice i j true false other) ∙ on))
            ];
            sums = λ s.
                added_set (length boxes) i boxes choice s lt (let long : length choice ≡ length boxes =
                is.long in omega arith) off
                ∙ ap (λ (x : List ℕ). xor_bytes x (get_or boxes i [])) (is.sums s)
                ∙ ap (xor_bytes (added s part)) read
                ∙ sym (added-xor s t part);
          },
        )

-- where no choice gives what is sought, no subset does
pub none_of_choices : (IsSought : List ℕ → Type 0) (s : List ℕ) (boxes : List (List ℕ)) (count : ℕ) → count
    ≡ length boxes →
    ((choice : List Bool) → IsSought (added s (chosen_below count boxes choice)) → ⊥) → HasNone IsSought s
    boxes
none_of_choices IsSought s boxes count is none part sub sought =
    let c = choice_of boxes part sub in
    none c.0 (subst IsSought (sym (ap (λ (k : ℕ). added s (chosen_below k boxes c.0)) is ∙ c.1.sums s))
    sought)
