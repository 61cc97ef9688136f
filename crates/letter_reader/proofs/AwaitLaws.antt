-- Where a piece is awaited.
use Rattle.std.proofs.Common.{◌≡◌, ◌<◌, ◌≤◌, ◌+◌, ◌⊎◌, inl, inr, ℕ, zero, suc, List, Bool, true, false}
use Rattle.std.proofs.Common.{length, get_or, set, take, drop, replicate, sym, ap, ◌∙◌, subst, arith}
use Rattle.std.proofs.Common.{get_or-set_other, get_or-set_same}
use Rattle.std.specs.Prelude.{IsPermutation}
use Rattle.std.specs.List.{Contains, All, range_with_len}
use Rattle.letter_pieces.specs.Laws.{OnePiece, PlacesPermuted}
use Rattle.letter_pieces.specs.Pieces.{Piece, Spells}
use Rattle.letter_pieces.specs.Places.{places, places_of}
use Rattle.known_pieces.specs.Telling.{KnownPiece}
use Rattle.known_pieces.specs.Opening.{IsNew}
use Rattle.std.proofs.lemmas.Bool.{cases_eq, cases_lt, false≢true}
use Rattle.std.proofs.lemmas.List.{get_or_default}
use Rattle.std.proofs.lemmas.List.Elements.{All-take, All-drop, All-get_or}
use Rattle.std.proofs.lemmas.List.FromFn.{length-range_with_len, get_or-range_with_len}
use Rattle.std.proofs.lemmas.List.Sorted.{All-permutation}

pub none_set : (n a : ℕ) → get_or (replicate n false) a false ≡ true → ⊥
none_set zero a is = false≢true is
none_set (suc n) zero is = false≢true is
none_set (suc n) (suc a) is = none_set n a is

pub part_below : (n skip most : ℕ) (order part : List ℕ) → IsPermutation (range_with_len 0 n) order →
    part ≡ take most (drop skip order) → (k : ℕ) → k < length part → get_or part k 0 < n
part_below n skip most order part permuted is k lt =
    All-get_or (λ a. a < n) part k 0 lt (subst (All (λ a. a < n)) (sym is)
    (All-take (λ a. a < n) most (drop skip order) (All-drop (λ a. a < n) skip order
    (All-permutation (λ a. a < n) (range_with_len 0 n) order permuted below))))
  where
    below : All (λ a. a < n) (range_with_len 0 n)
    below i d within =
        let long = length-range_with_len 0 n in
        let read = get_or-range_with_len 0 n i d (omega (arith, long, within)) in
        omega (arith, long, within, read)

-- the places of a part are addresses of the card
pub place_below : (n letter skip : ℕ) (order part : List ℕ) → n ≤ 64 → order ≡ places letter n
    → PlacesPermuted →
    part ≡ take 3 (drop skip order) → (k : ℕ) → k < length part → get_or part k 0 < 64
place_below n letter skip order part most drawn permuted is k lt =
    let below : get_or part k 0 < n = part_below n skip 3 order part
    (subst (IsPermutation (range_with_len 0 n)) (sym drawn) (permuted n letter)) is k lt in
    omega arith

pub named_more : (flags : List Bool) (items : List ℕ) (k : ℕ) → k < length items →
    ((a : ℕ) → get_or flags a false ≡ true → Contains items a) →
    (a : ℕ) → get_or (set flags (get_or items k 0) true) a false ≡ true → Contains items a
named_more flags items k lt before a is = elim (cases_eq a (get_or items k 0)) [
  | inl here ↦ (k, lt, get_or_default items k a 0 lt ∙ sym here)
  | inr ne ↦ before a (sym (get_or-set_other flags (get_or items k 0) a true false ne) ∙ is)
]

pub awaits_more : (flags : List Bool) (items : List ℕ) (k address : ℕ) → get_or items k 0 < length flags →
    ((j : ℕ) → j < k → (get_or flags (get_or items j 0) false ≡ true) ⊎ (get_or items j 0 ≡ address)) →
    (j : ℕ) → j < k + 1 →
    (get_or (set flags (get_or items k 0) true) (get_or items j 0) false ≡ true) ⊎ (get_or items j 0 ≡
    address)
awaits_more flags items k address within before j lt = elim (cases_eq (get_or items j 0) (get_or items k 0)) [
  | inl here ↦ inl (ap (λ a. get_or (set flags (get_or items k 0) true) a false) here
      ∙ get_or-set_same flags (get_or items k 0) true false within)
  | inr ne ↦ elim (cases_lt j k) [
    | inl below ↦ elim (before j below) [
      | inl still ↦ inl (get_or-set_other flags (get_or items k 0) (get_or items j 0) true false ne ∙ still)
      | inr here ↦ inr here
    ]
    | inr above ↦ absurd (ne (ap (λ i. get_or items i 0) (let same : j ≡ k = omega arith in same)))
  ]
]

pub awaits_skip : (flags : List Bool) (items : List ℕ) (k address : ℕ) → get_or items k 0 ≡ address →
    ((j : ℕ) → j < k → (get_or flags (get_or items j 0) false ≡ true) ⊎ (get_or items j 0 ≡ address)) →
    (j : ℕ) → j < k + 1 → (get_or flags (get_or items j 0) false ≡ true) ⊎ (get_or items j 0 ≡ address)
awaits_skip flags items k address is before j lt = elim (cases_lt j k) [
  | inl below ↦ before j below
  | inr above ↦ inr (ap (λ i. get_or items i 0) (let same : j ≡ k = omega arith in same) ∙ is)
]

pub new_piece : (addresses address : ℕ) (bytes : List ℕ) (p : Piece) (flags : List Bool) (piece :
    KnownPiece) → OnePiece →
    Spells p bytes → piece.bytes ≡ bytes → piece.awaited ≡ flags →
    ((a : ℕ) → get_or flags a false ≡ true → Contains (places_of addresses p) a) →
    ((a : ℕ) → Contains (places_of addresses p) a → (get_or flags a false ≡ true) ⊎ (a ≡ address)) →
    IsNew addresses address bytes piece
new_piece addresses address bytes p flags piece one spells is awaited named awaits = record {
  is = is;
  named = λ a on. (p, spells, named a (sym (ap (λ (t : List Bool). get_or t a false) awaited) ∙ on));
  awaits = λ a names. elim (awaits a (subst (λ (q : Piece). Contains (places_of addresses q) a)
      (one names.0 p bytes names.1 spells) names.2)) [
        | inl on ↦ inl (ap (λ (t : List Bool). get_or t a false) awaited ∙ on)
        | inr here ↦ inr here
      ];
}
