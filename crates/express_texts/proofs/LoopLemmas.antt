-- Pairs that are read one after another.
use Rattle.std.proofs.Common.{◌≡◌, ℕ, ◌+◌, ◌-◌, ◌<◌, nat_eq, cond, true, false, List, [], ◌∷◌, ◌++◌, length, Some, None, Result, Ok, Err, arith, refl, sym, ◌∙◌, ap, append_assoc, append-nil}
use Rattle.std.proofs.lemmas.List.{length_push}
use Rattle.std.proofs.lemmas.Bool.{ne_eqb}
use Rattle.express_words.specs.declared.audit.Closing.{Closing}
use Rattle.express_texts.specs.Batch.{Pairs, pair_of, pair_then, pairs_of}

-- the pairs that stand before those of the lines that are left
abbrev pub behind : List Closing → List Closing → Result Pairs ℕ → Result Pairs ℕ
behind zero one (Ok pairs) = Ok (record { zero = zero ++ pairs.zero; one = one ++ pairs.one })
behind zero one (Err bad) = Err bad

-- what is left to read of the lines from n on
abbrev pub left_of : ℕ → List Closing → List Closing → List (List ℕ) → Result Pairs ℕ
left_of most zero one lines = behind zero one (pairs_of (most - length zero) (length zero + 2) lines)

next_of : (room n : ℕ) (zero one : List Closing) (line : List ℕ) (lines : List (List ℕ)) (c d : Closing) → 0 < room → pair_of line ≡ Some (c, d)
    → behind zero one (pairs_of room n (line ∷ lines)) ≡ behind (zero ++ c ∷ []) (one ++ d ∷ []) (pairs_of (room - 1) (n + 1) lines)
unfolding pairs_of
next_of room n zero one line lines c d some is =
    let other : nat_eq room 0 ≡ false = ne_eqb room 0 (λ e. omega (arith, e, some)) in
    rw (other, is) (at_rest (pairs_of (room - 1) (n + 1) lines))
  where
    at_rest : (rest : Result Pairs ℕ) → behind zero one (pair_then n (Some (c, d)) rest) ≡ behind (zero ++ c ∷ []) (one ++ d ∷ []) rest
    at_rest (Err bad) = refl
    at_rest (Ok pairs) =
        ap (λ (t : List Closing). Ok (record { zero = t; one = one ++ d ∷ pairs.one })) (sym (append_assoc zero (c ∷ []) pairs.zero))
        ∙ ap (λ (t : List Closing). Ok (record { zero = (zero ++ c ∷ []) ++ pairs.zero; one = t })) (sym (append_assoc one (d ∷ []) pairs.one))

-- a line that is no pair is the first bad one
pub left-bad : (most : ℕ) (zero one : List Closing) (line : List ℕ) (lines : List (List ℕ)) → pair_of line ≡ None → left_of most zero one (line ∷ lines) ≡ Err (length zero + 2)
unfolding pairs_of
left-bad most zero one line lines is =
    elim (nat_eq (most - length zero) 0) as (λ t. behind zero one (cond t (Err (length zero + 2)) (pair_then (length zero + 2) (pair_of line) (pairs_of (most - length zero - 1) (length zero + 2 + 1) lines))) ≡ Err (length zero + 2))
    [ true ↦ refl | false ↦ rw is refl ]

-- a line more than there is room for is the first bad one
pub left-full : (most : ℕ) (zero one : List Closing) (line : List ℕ) (lines : List (List ℕ)) → length zero ≡ most → left_of most zero one (line ∷ lines) ≡ Err (length zero + 2)
unfolding pairs_of
left-full most zero one line lines full = let none : most - length zero ≡ 0 = omega arith in rw none refl

pub left-none : (most : ℕ) (zero one : List Closing) → left_of most zero one [] ≡ Ok (record { zero = zero; one = one })
unfolding pairs_of
left-none most zero one =
    ap (λ (t : List Closing). Ok (record { zero = t; one = one ++ [] })) (append-nil zero)
    ∙ ap (λ (t : List Closing). Ok (record { zero = zero; one = t })) (append-nil one)

-- one turn of the reading loop
pub left-step : (most : ℕ) (zero one zero' one' : List Closing) (lines behind' : List (List ℕ)) (line : List ℕ) (c d : Closing) (all : Result Pairs ℕ)
    → zero' ≡ zero ++ c ∷ [] → one' ≡ one ++ d ∷ [] → lines ≡ line ∷ behind' → pair_of line ≡ Some (c, d) → length zero < most
    → left_of most zero one lines ≡ all → left_of most zero' one' behind' ≡ all
left-step most zero one zero' one' lines behind' line c d all zero_is one_is split is room so_far =
    let left : most - length (zero ++ c ∷ []) ≡ most - length zero - 1 = rw length_push (omega arith) in
    let next : length (zero ++ c ∷ []) + 2 ≡ length zero + 2 + 1 = rw length_push (omega arith) in
    rw (zero_is, one_is, left, next) (sym (next_of (most - length zero) (length zero + 2) zero one line behind' c d (omega (arith, room)) is)
    ∙ ap (λ ls. left_of most zero one ls) (sym split) ∙ so_far)
