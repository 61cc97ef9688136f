-- What a copy's standing says of its tries, and how it stands behind one more.
use Rattle.std.proofs.Common.{◌≡◌, ℕ, suc, ◌+◌, ◌-◌, ◌≤◌, eqb, Bool, true, false, cond, ◌&&◌, List, ◌∷◌, refl, ap, ◌∙◌, arith}
use Rattle.std.specs.Prelude.{Contains}
use Rattle.std.proofs.lemmas.Bool.{ne_eqb, eqb-false}
use Rattle.std.proofs.lemmas.List.Sums.{sum_by-cons}
use Rattle.letter_copies.specs.declared.standing.Standing.{Standing}
use Rattle.letter_copies.specs.declared.standing.Standing.TheVariants.{Waits, Written, NotWritten, Unknown}
use Rattle.letter_copies.specs.Copies.{tried_again}
use Rattle.letter_copies.specs.Laws.{IsAccepted}
use Rattle.letter_copies.specs.Runs.{CopyTry, accepted_at, is_of, may_be_accepted, may_be_accepted_at, tries_at}

-- ---- what one try adds

abbrev pub adds : ℕ → CopyTry → ℕ
adds copy t = cond (may_be_accepted_at copy t) 1 0

abbrev pub counts : ℕ → CopyTry → ℕ
counts copy t = cond (is_of copy t) 1 0

pub accepted_cons : (copy : ℕ) (t : CopyTry) (before : List CopyTry)
    → accepted_at copy (t ∷ before) ≡ adds copy t + accepted_at copy before
accepted_cons copy t before = sum_by-cons (λ x. cond (may_be_accepted_at copy x) 1 0) t before

pub tries_cons : (copy : ℕ) (t : CopyTry) (before : List CopyTry)
    → tries_at copy (t ∷ before) ≡ counts copy t + tries_at copy before
tries_cons copy t before = sum_by-cons (λ x. cond (is_of copy x) 1 0) t before

one_at_most : (b : Bool) → cond b 1 0 ≤ 1
one_at_most true = omega arith
one_at_most false = omega arith

pub adds_one : (copy : ℕ) (t : CopyTry) → adds copy t ≤ 1
adds_one copy t = one_at_most (may_be_accepted_at copy t)

pub counts_one : (copy : ℕ) (t : CopyTry) → counts copy t ≤ 1
counts_one copy t = one_at_most (is_of copy t)

pub adds_elsewhere : (copy : ℕ) (t : CopyTry) → (t.copy ≡ copy → ⊥) → adds copy t ≡ 0
adds_elsewhere copy t other = ap (λ b. cond (b && may_be_accepted t) 1 0) (ne_eqb t.copy copy other)

pub counts_elsewhere : (copy : ℕ) (t : CopyTry) → (t.copy ≡ copy → ⊥) → counts copy t ≡ 0
counts_elsewhere copy t other = ap (λ b. cond b 1 0) (ne_eqb t.copy copy other)

abbrev counted : Bool → Bool → ℕ
counted b c = cond (b && c) 1 0

pub adds_none : (copy : ℕ) (t : CopyTry) → may_be_accepted t ≡ false → adds copy t ≡ 0
adds_none copy t none =
    ap (counted (eqb t.copy copy)) none ∙ at_test (eqb t.copy copy)
  where
    at_test : (b : Bool) → counted b false ≡ 0
    at_test true = refl
    at_test false = refl

-- ---- what a standing says

-- a try of this copy was accepted
pub record WasAccepted (copy : ℕ) (before : List CopyTry) : Type 0 where
  pub accepted : CopyTry
  pub is_copy : accepted.copy ≡ copy
  pub is_accepted : IsAccepted accepted
  pub tried : Contains before accepted

abbrev pub SaysSo : Standing → ℕ → List CopyTry → Type 0
SaysSo (Waits further) copy before = (accepted_at copy before ≡ 0) × (tries_at copy before + further ≤ 5)
SaysSo Written copy before =
    (accepted_at copy before ≤ 1) × (tries_at copy before ≤ 6) × WasAccepted copy before
SaysSo NotWritten copy before = (accepted_at copy before ≡ 0) × (tries_at copy before ≤ 6)
SaysSo Unknown copy before = (accepted_at copy before ≤ 1) × (tries_at copy before ≤ 6)

pub once_before : (s : Standing) (copy : ℕ) (before : List CopyTry) → SaysSo s copy before
    → accepted_at copy before ≤ 1
once_before (Waits further) copy before says = let e = says.0 in omega (arith, e)
once_before Written copy before says = says.0
once_before NotWritten copy before says = let e = says.0 in omega (arith, e)
once_before Unknown copy before says = says.0

pub few_before : (s : Standing) (copy : ℕ) (before : List CopyTry) → SaysSo s copy before
    → tries_at copy before ≤ 6
few_before (Waits further) copy before says = let e = says.1 in omega (arith, e)
few_before Written copy before says = says.1
few_before NotWritten copy before says = says.1
few_before Unknown copy before says = says.1

-- ---- behind one more try

behind_first : (t : CopyTry) (before : List CopyTry) (x : CopyTry) → Contains before x → Contains (t ∷ before) x
behind_first t before x (k, within, is) = (suc k, omega (arith, within), is)

-- a try of another copy changes nothing
pub other_try : (s : Standing) (copy : ℕ) (t : CopyTry) (before : List CopyTry) → (t.copy ≡ copy → ⊥)
    → SaysSo s copy before → SaysSo s copy (t ∷ before)
other_try s copy t before other says = by_standing s says
  where
    same_accepted : accepted_at copy (t ∷ before) ≡ accepted_at copy before
    same_accepted =
        let e = adds_elsewhere copy t other in
        let c = accepted_cons copy t before in omega (arith, e, c)

    same_tries : tries_at copy (t ∷ before) ≡ tries_at copy before
    same_tries =
        let e = counts_elsewhere copy t other in
        let c = tries_cons copy t before in omega (arith, e, c)

    by_standing : (s : Standing) → SaysSo s copy before → SaysSo s copy (t ∷ before)
    by_standing (Waits further) says =
        let a = says.0 in let n = says.1 in
        (let e = same_accepted in omega (arith, a, e), let e = same_tries in omega (arith, n, e))
    by_standing Written says =
        let a = says.0 in let n = says.1 in (
          let e = same_accepted in omega (arith, a, e),
          let e = same_tries in omega (arith, n, e),
          record {
            accepted = says.2.accepted;
            is_copy = says.2.is_copy;
            is_accepted = says.2.is_accepted;
            tried = behind_first t before says.2.accepted says.2.tried;
          },
        )
    by_standing NotWritten says =
        let a = says.0 in let n = says.1 in
        (let e = same_accepted in omega (arith, a, e), let e = same_tries in omega (arith, n, e))
    by_standing Unknown says =
        let a = says.0 in let n = says.1 in
        (let e = same_accepted in omega (arith, a, e), let e = same_tries in omega (arith, n, e))

-- behind a try of a copy that waited
module _ (further copy : ℕ) (t : CopyTry) (before : List CopyTry) (is : t.copy ≡ copy)
    (says : SaysSo (Waits further) copy before) where
  few : tries_at copy (t ∷ before) + further ≤ 6
  few =
      let n = says.1 in let c = counts_one copy t in
      let e = tries_cons copy t before in omega (arith, n, c, e)

  once : accepted_at copy (t ∷ before) ≤ 1
  once =
      let a = says.0 in let c = adds_one copy t in
      let e = accepted_cons copy t before in omega (arith, a, c, e)

  pub behind_unknown : SaysSo Unknown copy (t ∷ before)
  behind_unknown = (once, let f = few in omega (arith, f))

  pub behind_written : IsAccepted t → SaysSo Written copy (t ∷ before)
  behind_written accepted = (
    once,
    let f = few in omega (arith, f),
    record {
      accepted = t;
      is_copy = is;
      is_accepted = accepted;
      tried = (0, omega arith, refl);
    },
  )

  pub behind_nothing : may_be_accepted t ≡ false → SaysSo (tried_again (Waits further)) copy (t ∷ before)
  behind_nothing none = at_further (eqb further 0) refl
    where
      no_more : accepted_at copy (t ∷ before) ≡ 0
      no_more =
          let a = says.0 in let n = adds_none copy t none in
          let e = accepted_cons copy t before in omega (arith, a, n, e)

      at_further : (b : Bool) → eqb further 0 ≡ b
          → SaysSo (cond b NotWritten (Waits (further - 1))) copy (t ∷ before)
      at_further true e = (no_more, let f = few in omega (arith, f))
      at_further false e =
          (no_more, let f = few in let some = eqb-false further 0 e in omega (arith, f, some))
