-- What is told of readings, one reading after another.
use Rattle.std.proofs.Common.{◌≡◌, ◌<◌, ◌≤◌, ◌+◌, ◌⊎◌, inl, inr, ℕ, zero, suc, List, [], ◌∷◌, ◌++◌}
use Rattle.std.proofs.Common.{length, get_or, refl, sym, ap, ◌∙◌, subst, arith, append_assoc, drop}
use Rattle.std.proofs.Common.{drop-cons, add-one}
use Rattle.std.specs.List.{Contains, All}
use Rattle.std.proofs.lemmas.List.{get_or_default, drop_all, append-nil}
use Rattle.std.proofs.lemmas.List.Elements.{All-contains, All-push}
use Rattle.known_pieces.specs.Known.{Reading}
use Rattle.known_pieces.specs.Telling.{KnownPiece, Accounts, IsSumOf, IsTried}
use Rattle.known_pieces.specs.Opening.{Opens}
use Rattle.known_pieces.proofs.OpeningLaws.{accounts_opened}
use Rattle.letter_reader.specs.Reader.{told_as}

-- ---- an element between others

pub in_middle : {A : Type 0} (xs ys : List A) (x : A) → Contains (xs ++ x ∷ ys) x
in_middle [] ys x = (0, omega arith, refl)
in_middle (z ∷ xs) ys x = let at = in_middle xs ys x in (suc at.0, let lt = at.1 in omega arith, at.2)

step : {A : Type 0} (z y : A) (xs : List A) → Contains xs y → Contains (z ∷ xs) y
step z y xs (k, lt, is) = (suc k, omega arith, is)

pub but_middle : {A : Type 0} (xs ys : List A) (x y : A) → Contains (xs ++ x ∷ ys) y
    → Contains (xs ++ ys) y ⊎ (y ≡ x)
but_middle [] ys x y (zero, lt, is) = inr (sym is)
but_middle [] ys x y (suc k, lt, is) = inl (k, omega arith, is)
but_middle (z ∷ xs) ys x y (zero, lt, is) = inl (0, omega arith, is)
but_middle (z ∷ xs) ys x y (suc k, lt, is) = elim (but_middle xs ys x y (k, omega arith, is)) [
  | inl there ↦ inl (step z y (xs ++ ys) there)
  | inr here ↦ inr here
]

pub with_middle : {A : Type 0} (xs ys : List A) (x y : A) → Contains (xs ++ ys) y → Contains (xs ++ x ∷ ys) y
with_middle [] ys x y there = step x y ys there
with_middle (z ∷ xs) ys x y (zero, lt, is) = (0, omega arith, is)
with_middle (z ∷ xs) ys x y (suc k, lt, is) = step z y (xs ++ x ∷ ys) (with_middle xs ys x y (
  k,
  omega
      arith,
  is,
))

all_by : {A : Type 0} (P : A → Type 0) (xs : List A) → ((x : A) → Contains xs x → P x) → All P xs
all_by P xs each k d lt = each (get_or xs k d) (k, lt, get_or_default xs k (get_or xs k d) d lt)

-- ---- readings

-- all are left at first
pub all_left : (addresses : ℕ) (readings : List Reading) → Accounts addresses readings (told_as [] readings)
all_left addresses readings = record {
  sound = λ k lt. absurd (omega arith);
  once = λ i j d lt le. absurd (omega arith);
  left_read = all_by (Contains readings) readings (λ x there. there);
  kept = all_by (λ r. Contains readings r ⊎ ((parts : List (List ℕ)) × IsSumOf [] r parts)) readings (λ x
      there. inl there);
  named = λ k a there. absurd (omega (arith, there.1));
  awaits = λ k a there. absurd (omega (arith, there.1));
}

-- one of them is opened
one_opened : (addresses : ℕ) (readings kept behind : List Reading) (r : Reading) (old new : List KnownPiece) →
    Accounts addresses readings (told_as old (kept ++ r ∷ behind)) → Opens addresses r old new →
    Accounts addresses readings (told_as new (kept ++ behind))
one_opened addresses readings kept behind r old new before opens =
    accounts_opened addresses readings old (kept ++ r ∷ behind) (kept ++ behind) r before
    (All-contains (Contains readings) (kept ++ r ∷ behind) r before.left_read (in_middle kept behind r))
    (λ x there. but_middle kept behind r x there)
    (all_by (Contains readings) (kept ++ behind) (λ x there.
    All-contains (Contains readings) (kept ++ r ∷ behind) x before.left_read (with_middle kept behind r x
    there)))
    new opens

-- or it is left
one_left : (addresses : ℕ) (readings kept behind : List Reading) (r : Reading) (known : List KnownPiece) →
    Accounts addresses readings (told_as known (kept ++ r ∷ behind)) →
    Accounts addresses readings (told_as known ((kept ++ r ∷ []) ++ behind))
one_left addresses readings kept behind r known before =
    subst (λ left. Accounts addresses readings (told_as known left)) (sym (append_assoc kept (r ∷ [])
    behind)) before

-- ---- one reading after another

next : (left : List Reading) (i : ℕ) (r : Reading) → i < length left → r ≡ get_or left i r →
    drop i left ≡ r ∷ drop (i + 1) left
next left i r lt is =
    drop-cons left i r lt ∙ ap (λ x. x ∷ drop (suc i) left) (sym is)
    ∙ ap (λ n. r ∷ drop n left) (sym (add-one i))

pub pass_opened : (addresses : ℕ) (readings kept left : List Reading) (i : ℕ) (r : Reading) (old new : List
    KnownPiece) →
    i < length left → r ≡ get_or left i r →
    Accounts addresses readings (told_as old (kept ++ drop i left)) → Opens addresses r old new →
    Accounts addresses readings (told_as new (kept ++ drop (i + 1) left))
pass_opened addresses readings kept left i r old new lt is before opens =
    one_opened addresses readings kept (drop (i + 1) left) r old new
    (subst (λ rest. Accounts addresses readings (told_as old (kept ++ rest))) (next left i r lt is) before)
    opens

pub pass_left : (addresses : ℕ) (readings kept kept_now left : List Reading) (i : ℕ) (r : Reading)
    (old new : List KnownPiece) → i < length left → r ≡ get_or left i r → new ≡ old
    → kept_now ≡ kept ++ r ∷ [] →
    Accounts addresses readings (told_as old (kept ++ drop i left)) →
    Accounts addresses readings (told_as new (kept_now ++ drop (i + 1) left))
pass_left addresses readings kept kept_now left i r old new lt is same pushed before =
    subst (λ known. Accounts addresses readings (told_as known (kept_now ++ drop (i + 1) left))) (sym same)
    (subst (λ some. Accounts addresses readings (told_as old (some ++ drop (i + 1) left))) (sym pushed)
    (one_left addresses readings kept (drop (i + 1) left) r old
    (subst (λ rest. Accounts addresses readings (told_as old (kept ++ rest))) (next left i r lt is) before)))

pub tried_push : (kept kept_now : List Reading) (r : Reading) (old new : List KnownPiece) → new ≡ old →
    kept_now ≡ kept ++ r ∷ [] → All (IsTried old) kept → IsTried old r → All (IsTried new) kept_now
tried_push kept kept_now r old new same pushed all tried =
    subst (λ known. All (IsTried known) kept_now) (sym same)
    (subst (All (IsTried old)) (sym pushed) (All-push (IsTried old) kept r all tried))

pub pass_done : (addresses : ℕ) (readings kept left : List Reading) (i : ℕ) (known : List KnownPiece) →
    length left ≤ i → Accounts addresses readings (told_as known (kept ++ drop i left)) →
    Accounts addresses readings (told_as known kept)
pass_done addresses readings kept left i known le before =
    subst (λ some. Accounts addresses readings (told_as known some))
    (ap (λ rest. kept ++ rest) (drop_all i left le) ∙ append-nil kept) before
