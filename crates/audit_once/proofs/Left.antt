-- How many audits a row may still make for a serial.
use Rattle.std.specs.Prelude.{◌≡◌, ℕ, ◌+◌, ◌<◌, ◌≤◌, ◌&&◌, Bool, true, false, cond, nat_lt, nat_eq, refl, List, [], ◌∷◌, ◌++◌, length, slice_set, slice_index_or}
use Rattle.std.proofs.Common.{ap, sym, subst, ◌∙◌, arith, inl, inr, zero, suc}
use Rattle.std.proofs.lemmas.Bool.{cases_eq, cases_lt, eqb-true, eqb-false, ltb-true, ltb-false}
use Rattle.std.proofs.lemmas.List.{get_or-set_same, get_or-set_other}
use Rattle.std.proofs.lemmas.List.Sums.{sum_by-cons, sum_by-append}
use Rattle.frame_rules.specs.Frames.{PlainFrame, PlainBody}
use Rattle.audit_once.specs.Once.{count_for}

-- by the row's serial and what it may still make for that one
pub left : ℕ → ℕ → ℕ → ℕ
left r n s = cond (nat_lt r s) 1 (cond (nat_eq r s) n 0)

pub left_cases : (P : ℕ → Type 0) (r n s : ℕ) → (r < s → P 1) → (r ≡ s → P n) → (s < r → P 0) → P (left r n s)
unfolding left
left_cases P r n s low same high = by (nat_lt r s) refl (nat_eq r s) refl
  where
    by : (l : Bool) → nat_lt r s ≡ l → (e : Bool) → nat_eq r s ≡ e → P (cond l 1 (cond e n 0))
    by true p e q = low (ltb-true _ _ p)
    by false p true q = same (eqb-true _ _ q)
    by false p false q = let a = ltb-false _ _ p in let b = eqb-false _ _ q in high (omega (arith, a, b))

pub left_low : (r n s : ℕ) → r < s → left r n s ≡ 1
left_low r n s h = left_cases (λ x. x ≡ 1) r n s (λ low. refl) (λ same. absurd (omega (arith, h, same))) (λ high. absurd (omega (arith, h, high)))

left_high : (r n s : ℕ) → s < r → left r n s ≡ 0
left_high r n s h = left_cases (λ x. x ≡ 0) r n s (λ low. absurd (omega (arith, h, low))) (λ same. absurd (omega (arith, h, same))) (λ high. refl)

pub left_same : (r n : ℕ) → left r n r ≡ n
left_same r n = left_cases (λ x. x ≡ n) r n r (λ low. absurd (omega (arith, low))) (λ same. refl) (λ high. absurd (omega (arith, high)))

pub left_small : (r n s : ℕ) → n ≤ 1 → left r n s ≤ 1
left_small r n s h = left_cases (λ x. x ≤ 1) r n s (λ low. omega arith) (λ same. h) (λ high. omega arith)

-- a row that goes on, to a serial t with n left, of one with the serial r and m left
pub goes_on : (r m t n s : ℕ) → r ≤ t → n ≤ left r m t → left t n s ≤ left r m s
goes_on r m t n s later fits =
    left_cases (λ x. x ≤ left r m s) t n s
    (λ low. let e = left_low r m s (omega (arith, low, later)) in omega (arith, e))
    (λ same. subst (λ k. n ≤ left r m k) same fits)
    (λ high. omega arith)

unfoldable pub num : Bool → ℕ
num b = cond b 1 0

pub count_append : (kind : PlainBody → Bool) (lane s : ℕ) (xs ys : List PlainFrame)
    → count_for kind lane s (xs ++ ys) ≡ count_for kind lane s xs + count_for kind lane s ys
count_append kind lane s xs ys = sum_by-append (λ (f : PlainFrame). cond (nat_eq f.lane lane && (nat_eq f.serial s && kind f.body)) 1 0) xs ys

-- one frame counts where it is of the lane and the serial, and of the kind
pub count_cases : (P : ℕ → Type 0) (kind : PlainBody → Bool) (lane serial : ℕ) (f : PlainFrame)
    → (f.lane ≡ lane → f.serial ≡ serial → P (num (kind f.body))) → P 0 → P (count_for kind lane serial (f ∷ []))
unfolding num
count_cases P kind lane serial f here none =
    subst P (sym (sum_by-cons (λ (g : PlainFrame). cond (nat_eq g.lane lane && (nat_eq g.serial serial && kind g.body)) 1 0) f []))
    (by (nat_eq f.lane lane) refl (nat_eq f.serial serial) refl)
  where
    added : (n : ℕ) → P n → P (n + 0)
    added n p = let e : n ≡ n + 0 = omega arith in subst P e p

    by : (l : Bool) → nat_eq f.lane lane ≡ l → (e : Bool) → nat_eq f.serial serial ≡ e → P (cond (l && (e && kind f.body)) 1 0 + 0)
    by true p true q = added _ (here (eqb-true _ _ p) (eqb-true _ _ q))
    by true p false q = added _ none
    by false p e q = added _ none

module _ {X : Type 0} (serial spare : X → ℕ) (none : X) where
  abbrev pub left_in : X → ℕ → ℕ
  left_in r s = left (serial r) (spare r) s

  pub past_set : (xs : List X) (c : ℕ) (r : X) → length xs ≤ c → slice_set xs c r ≡ xs
  past_set [] c r h = refl
  past_set (x ∷ xs) zero r h = absurd (omega (arith, h))
  past_set (x ∷ xs) (suc c) r h = ap (λ l. x ∷ l) (past_set xs c r (omega (arith, h)))

  -- a table in which one row goes on has no more left for any lane and serial
  pub set_quiet : (xs : List X) (l : ℕ) (r : X) → serial (slice_index_or xs l none) ≤ serial r
      → spare r ≤ left_in (slice_index_or xs l none) (serial r)
      → (lane s : ℕ) → left_in (slice_index_or (slice_set xs l r) lane none) s ≤ left_in (slice_index_or xs lane none) s
  set_quiet xs l r later fits lane s = elim (cases_eq lane l) [
    | inl same ↦ elim (cases_lt l (length xs)) [
      | inl low ↦
          let at : slice_index_or (slice_set xs l r) lane none ≡ r =
          ap (λ n. slice_index_or (slice_set xs l r) n none) same ∙ get_or-set_same xs l r none low in
          subst (λ y. left_in y s ≤ left_in (slice_index_or xs lane none) s) (sym at)
          (subst (λ n. left_in r s ≤ left_in (slice_index_or xs n none) s) (sym same)
          (goes_on (serial (slice_index_or xs l none)) (spare (slice_index_or xs l none)) (serial r) (spare r) s later fits))
      | inr high ↦ subst (λ ys. left_in (slice_index_or ys lane none) s ≤ left_in (slice_index_or xs lane none) s) (sym (past_set xs l r high)) (omega arith)
    ]
    | inr other ↦ subst (λ y. left_in y s ≤ left_in (slice_index_or xs lane none) s) (sym (get_or-set_other xs l lane r none other)) (omega arith)
  ]

  -- and by a frame of that row's lane and serial fewer, where that counts
  pub set_counted : (xs : List X) (l : ℕ) (r : X) (kind : PlainBody → Bool) (f : PlainFrame) → l < length xs
      → f.lane ≡ l → f.serial ≡ serial r → serial (slice_index_or xs l none) ≤ serial r
      → num (kind f.body) + spare r ≤ left_in (slice_index_or xs l none) (serial r)
      → (lane s : ℕ)
      → count_for kind lane s (f ∷ []) + left_in (slice_index_or (slice_set xs l r) lane none) s ≤ left_in (slice_index_or xs lane none) s
  set_counted xs l r kind f low lanes serials later fits lane s =
      count_cases (λ n. n + left_in (slice_index_or (slice_set xs l r) lane none) s ≤ left_in (slice_index_or xs lane none) s) kind lane s f
      (λ here now.
      let same : lane ≡ l = sym here ∙ lanes in
      let when : s ≡ serial r = sym now ∙ serials in
      let at : slice_index_or (slice_set xs l r) lane none ≡ r =
      ap (λ n. slice_index_or (slice_set xs l r) n none) same ∙ get_or-set_same xs l r none low in
      subst (λ y. num (kind f.body) + left_in y s ≤ left_in (slice_index_or xs lane none) s) (sym at)
      (subst (λ n. num (kind f.body) + left_in r s ≤ left_in (slice_index_or xs n none) s) (sym same)
      (subst (λ n. num (kind f.body) + left_in r n ≤ left_in (slice_index_or xs l none) n) (sym when)
      (subst (λ n. num (kind f.body) + n ≤ left_in (slice_index_or xs l none) (serial r)) (sym (left_same (serial r) (spare r))) fits))))
      (let quiet = set_quiet xs l r later (omega (arith, fits)) lane s in omega (arith, quiet))
