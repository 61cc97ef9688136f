-- The lane that was found below a place.
use Rattle.std.proofs.Common.{◌≡◌, ℕ, zero, suc, ◌+◌, ◌<◌, ◌≤◌, ◌⊎◌, inl, inr, List, [], ◌∷◌, length, Bool, true, false, nat_lt, cond, Option, Some, None, refl, sym, ◌∙◌, ap, subst, arith}
use Rattle.std.proofs.lemmas.Bool.{ltb-true, ltb-false}
use Rattle.lane_gate.specs.declared.row.GateRow.{GateRow}
use Rattle.lane_gate.specs.Gates.{row_at, keyless}
use Rattle.lane_leases.specs.declared.choosing.Resting.{Resting}
use Rattle.lane_leases.specs.Choosing.{longer_of}
use Rattle.lane_leases.specs.Resting.{rested, HasRestedLongest, NoneRests}

-- it has rested longest of those below the place
pub record IsBest (rows : List GateRow) (place : ℕ) (best : Resting) : Type 0 where
  pub within : best.lane < place
  pub rests : rested (row_at rows best.lane) ≡ Some best.since
  pub longest : (other at : ℕ) → other < place → rested (row_at rows other) ≡ Some at → best.since ≤ at
  pub first : (other : ℕ) → other < place → rested (row_at rows other) ≡ Some best.since → best.lane ≤ other

abbrev pub Found : List GateRow → ℕ → Option Resting → Type 0
Found rows place None = (other : ℕ) → other < place → rested (row_at rows other) ≡ None
Found rows place (Some best) = IsBest rows place best

below : (other place : ℕ) → other < place + 1 → (other < place) ⊎ (other ≡ place)
below other place within = split (nat_lt other place) refl
  where
    split : (b : Bool) → nat_lt other place ≡ b → (other < place) ⊎ (other ≡ place)
    split true is = inl (ltb-true other place is)
    split false is = inr (let least = ltb-false other place is in omega arith)

same-since : (a b : ℕ) (o : Option ℕ) → o ≡ Some a → o ≡ Some b → a ≡ b
same-since a b o ea eb = let both : Some a ≡ Some b = sym ea ∙ eb in cc

none-some : (a : ℕ) (o : Option ℕ) → o ≡ None → o ≡ Some a → ⊥
none-some a o none some = let both : None ≡ Some a = sym none ∙ some in cc

passed-over : (rows : List GateRow) (place : ℕ) (best : Option Resting) → rested (row_at rows place) ≡ None →
    Found rows place best → Found rows (place + 1) best
passed-over rows place None none found = λ other within. elim (below other place within) [
  | inl less ↦ found other less
  | inr same ↦ subst (λ (n : ℕ). rested (row_at rows n) ≡ None) (sym same) none
]
passed-over rows place (Some best) none found = record {
  within = let w = found.within in omega arith;
  rests = found.rests;
  longest = λ other at within is. elim (below other place within) [
    | inl less ↦ found.longest other at less is
    | inr same ↦ absurd (none-some at _ none (subst (λ (n : ℕ). rested (row_at rows n) ≡ Some at) same is))
  ];
  first = λ other within is. elim (below other place within) [
    | inl less ↦ found.first other less is
    | inr same ↦ let w = found.within in omega arith
  ];
}

-- the place's own lane, which rests longer than all before it
taken : (rows : List GateRow) (place since : ℕ) → rested (row_at rows place) ≡ Some since →
    ((other at : ℕ) → other < place → rested (row_at rows other) ≡ Some at → since < at) →
    Found rows (place + 1) (Some (record { lane = place; since = since }))
taken rows place since is shorter = record {
  within = omega arith;
  rests = is;
  longest = λ other at within has. elim (below other place within) [
    | inl less ↦ (let more = shorter other at less has in omega arith)
    | inr same ↦ (let equal = same-since since at _ is (subst (λ (n : ℕ). rested (row_at rows n) ≡ Some at) same has) in omega arith)
  ];
  first = λ other within has. elim (below other place within) [
    | inl less ↦ (let more = shorter other since less has in omega arith)
    | inr same ↦ omega arith
  ];
}

-- the one that was found, which rests as long or longer
stays : (rows : List GateRow) (place since : ℕ) (best : Resting) → rested (row_at rows place) ≡ Some since →
    best.since ≤ since → IsBest rows place best → Found rows (place + 1) (Some best)
stays rows place since best is less found = record {
  within = let w = found.within in omega arith;
  rests = found.rests;
  longest = λ other at within has. elim (below other place within) [
    | inl before ↦ found.longest other at before has
    | inr same ↦ (let equal = same-since since at _ is (subst (λ (n : ℕ). rested (row_at rows n) ≡ Some at) same has) in omega arith)
  ];
  first = λ other within has. elim (below other place within) [
    | inl before ↦ found.first other before has
    | inr same ↦ let w = found.within in omega arith
  ];
}

pub found-next : (rows : List GateRow) (place : ℕ) (best : Option Resting) (since : Option ℕ) → rested (row_at rows place) ≡ since →
    Found rows place best → Found rows (place + 1) (longer_of best place since)
found-next rows place best None is found = passed-over rows place best is found
found-next rows place None (Some since) is found =
    taken rows place since is (λ other at less has. absurd (none-some at _ (found other less) has))
found-next rows place (Some best) (Some since) is found = chosen (nat_lt since best.since) refl
  where
    chosen : (b : Bool) → nat_lt since best.since ≡ b →
        Found rows (place + 1) (cond b (Some (record { lane = place; since = since })) (Some best))
    chosen true shorter = taken rows place since is
        (λ other at less has. (let least = found.longest other at less has in let under = ltb-true since best.since shorter in omega arith))
    chosen false longer = stays rows place since best is (ltb-false since best.since longer) found

pub none-behind : (rows : List GateRow) (lane : ℕ) → length rows ≤ lane → row_at rows lane ≡ keyless
none-behind [] lane behind = refl
none-behind (row ∷ rows) zero behind = absurd (omega arith)
none-behind (row ∷ rows) (suc lane) behind = none-behind rows lane (omega arith)

within-or-none : (rows : List GateRow) (lane : ℕ) → (lane < length rows) ⊎ (rested (row_at rows lane) ≡ None)
within-or-none rows lane = split (nat_lt lane (length rows)) refl
  where
    split : (b : Bool) → nat_lt lane (length rows) ≡ b → (lane < length rows) ⊎ (rested (row_at rows lane) ≡ None)
    split true is = inl (ltb-true lane (length rows) is)
    split false is = inr (ap rested (none-behind rows lane (ltb-false lane (length rows) is)))

pub longest-of-all : (rows : List GateRow) (place : ℕ) (best : Resting) → length rows ≤ place → IsBest rows place best → HasRestedLongest rows best.lane
longest-of-all rows place best all found = record {
  since = best.since;
  rests = found.rests;
  longest = λ other at has. elim (within-or-none rows other) [
    | inl within ↦ found.longest other at (omega arith) has
    | inr none ↦ absurd (none-some at _ none has)
  ];
  first = λ other has. elim (within-or-none rows other) [
    | inl within ↦ found.first other (omega arith) has
    | inr none ↦ absurd (none-some best.since _ none has)
  ];
}

pub none-of-all : (rows : List GateRow) (place : ℕ) → length rows ≤ place → Found rows place None → NoneRests rows
none-of-all rows place all found lane = elim (within-or-none rows lane) [
  | inl within ↦ found lane (omega arith)
  | inr none ↦ none
]
