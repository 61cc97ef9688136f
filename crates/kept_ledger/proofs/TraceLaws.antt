-- What stands in a ledger was told by a note.
use Rattle.std.proofs.Common.{◌≡◌, ◌⊎◌, inl, inr, ℕ, zero, suc, ◌++◌, List, [], ◌∷◌, Some, refl}
use Rattle.std.proofs.Common.{sym, ◌∙◌, subst, append_assoc}
use Rattle.std.specs.Prelude.{slice_get}
use Rattle.kept_ledger.specs.Laws.{Has, SomeNote}
use Rattle.kept_ledger.specs.Ledgers.{LedgerState, fold_from, ledger_after, opened_ledger, step_of}
use Rattle.kept_ledger.specs.Notes.{Opening, Noted}

-- ---- one more of a list

pub has_front : {A : Type 0} (xs ys : List A) (x : A) → Has xs x → Has (xs ++ ys) x
has_front xs ys x has = (has.0, front xs ys has.0 x has.1)
  where
    front : {A : Type 0} (xs ys : List A) (i : ℕ) (x : A) → slice_get xs i ≡ Some x
        → slice_get (xs ++ ys) i ≡ Some x
    front [] ys i x e = absurd (cc e)
    front (y ∷ xs) ys zero x e = e
    front (y ∷ xs) ys (suc i) x e = front xs ys i x e

pub has_last : {A : Type 0} (xs : List A) (x : A) → Has (xs ++ x ∷ []) x
has_last [] x = (0, refl)
has_last (y ∷ xs) x = let rest = has_last xs x in (suc rest.0, rest.1)

at_push : {A : Type 0} (xs : List A) (y : A) (i : ℕ) (x : A) → slice_get (xs ++ y ∷ []) i ≡ Some x
    → Has xs x ⊎ (y ≡ x)
at_push [] y zero x e = inr (cc e)
at_push [] y (suc i) x e = absurd (cc e)
at_push (z ∷ xs) y zero x e = inl (0, e)
at_push (z ∷ xs) y (suc i) x e = elim (at_push xs y i x e) [
  | inl has ↦ inl (suc has.0, has.1)
  | inr same ↦ inr same
]

pub has_push : {A : Type 0} (xs : List A) (y x : A) → Has (xs ++ y ∷ []) x → Has xs x ⊎ (y ≡ x)
has_push xs y x has = at_push xs y has.0 x has.1

-- ---- notes one behind the other

pub fold_append : (s : LedgerState) (xs ys : List Noted)
    → fold_from s (xs ++ ys) ≡ fold_from (fold_from s xs) ys
unfolding fold_from
fold_append s [] ys = refl
fold_append s (x ∷ xs) ys = fold_append (step_of s x) xs ys

pub after_one : (o : Opening) (before : List Noted) (n : Noted)
    → ledger_after o (before ++ n ∷ []) ≡ step_of (ledger_after o before) n
unfolding fold_from
after_one o before n = fold_append (opened_ledger o) before (n ∷ [])

pub after_more : (o : Opening) (before rest : List Noted) (n : Noted)
    → ledger_after o (before ++ n ∷ rest) ≡ fold_from (step_of (ledger_after o before) n) rest
unfolding fold_from
after_more o before rest n = fold_append (opened_ledger o) before (n ∷ rest)

-- of these parts of a ledger each stood there before the step, or its note told it
pub record Traced (A : Type 0) : Type 1 where
  pub part : LedgerState → List A
  pub Tells : A → LedgerState → Noted → Type 0
  pub step : (s : LedgerState) (n : Noted) (x : A) → Has (part (step_of s n)) x
      → Has (part s) x ⊎ Tells x s n
  pub none : (o : Opening) → part (opened_ledger o) ≡ []

module _ {A : Type 0} (t : Traced A) (o : Opening) (x : A) where
  moved : (before rest : List Noted) (n : Noted) → SomeNote o ((before ++ n ∷ []) ++ rest) (t.Tells x)
      → SomeNote o (before ++ n ∷ rest) (t.Tells x)
  moved before rest n some = record {
    before = some.before;
    note = some.note;
    rest = some.rest;
    split = sym (append_assoc before (n ∷ []) rest) ∙ some.split;
    is = some.is;
  }

  from : (before notes : List Noted) → Has (t.part (fold_from (ledger_after o before) notes)) x
      → SomeNote o (before ++ notes) (t.Tells x) ⊎ Has (t.part (ledger_after o before)) x
  unfolding fold_from
  from before [] has = inr has
  from before (n ∷ notes) has =
      let one = after_one o before n in
      let here : Has (t.part (fold_from (ledger_after o (before ++ n ∷ [])) notes)) x =
      subst (λ (s : LedgerState). Has (t.part (fold_from s notes)) x) (sym one) has in
      elim (from (before ++ n ∷ []) notes here) [
        | inl some ↦ inl (moved before notes n some)
        | inr there ↦ elim (t.step (ledger_after o before) n x (subst (λ (s : LedgerState). Has (t.part s) x)
            one there)) [
              | inl was ↦ inr was
              | inr tells ↦ inl (record { before = before; note = n; rest = notes; split = refl; is = tells })
            ]
      ]

  pub told : (notes : List Noted) → Has (t.part (ledger_after o notes)) x → SomeNote o notes (t.Tells x)
  unfolding fold_from
  told notes has = elim (from [] notes has) [
    | inl some ↦ some
    | inr never ↦ absurd (no_has (subst (λ (l : List A). Has l x) (t.none o) never))
  ]
    where
      no_has : Has [] x → ⊥
      no_has has = cc has.1
