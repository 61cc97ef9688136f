-- A text is read as a batch exactly where it spells it, and refused at a line exactly where that is its first bad one.
use Rattle.std.proofs.Common.{◌≡◌, ℕ, suc, ◌+◌, ◌-◌, ◌≤◌, ◌⊎◌, inl, inr, nat_eq, Bool, true, false, cond, List, [], ◌∷◌, ◌++◌, length, Option, Some, None, Result, Ok, Err, arith, refl, sym, ap, subst, zero-add}
use Rattle.std.proofs.lemmas.Bool.{eqb-true, eqb-false, ne_eqb}
use Rattle.express_words.specs.declared.audit.Closing.{Closing}
use Rattle.express_texts.specs.Lines.{lines_of, AreLines}
use Rattle.express_texts.proofs.LineLaws.{lines_found, lines_only}
use Rattle.express_texts.specs.Batch.{Pairs, Batch, most_pairs, pair_of, pair_then, pairs_of, header_of, header_then, under, batch_of_lines, batch_of}
use Rattle.express_texts.specs.Spelling.{SpellsPairs, SpellsHeader, SpellsBatch, IsNoPair, IsFirstBadOf, IsFirstBadLine}
use Rattle.express_texts.proofs.PairLaws.{pair_found, pair_only, header_found, header_only}

no_pair : (line : List ℕ) → pair_of line ≡ None → IsNoPair line
no_pair line none zero one spelled = let some = pair_only zero one line spelled in cc

none_of : (line : List ℕ) (r : Option (Closing × Closing)) → pair_of line ≡ r → IsNoPair line → pair_of line ≡ None
none_of line None is none = is
none_of line (Some pair) is none = absurd (none pair.0 pair.1 (pair_found line pair is))

-- what the first line and those behind it come to
record Found (n : ℕ) (r : Option (Closing × Closing)) (others : Result Pairs ℕ) (pairs : Pairs) : Type 0 where
  pair : Closing × Closing
  more : Pairs
  first : r ≡ Some pair
  later : others ≡ Ok more
  is : record { zero = pair.0 ∷ more.zero; one = pair.1 ∷ more.one } ≡ pairs

then_found : (n : ℕ) (r : Option (Closing × Closing)) (others : Result Pairs ℕ) (pairs : Pairs) → pair_then n r others ≡ Ok pairs → Found n r others pairs
then_found n None others pairs h = cc
then_found n (Some pair) (Ok more) pairs h = record { pair = pair; more = more; first = refl; later = refl; is = cc }
then_found n (Some pair) (Err bad) pairs h = cc

then_bad : (n bad : ℕ) (r : Option (Closing × Closing)) (others : Result Pairs ℕ) → pair_then n r others ≡ Err bad →
    ((r ≡ None) × (n ≡ bad)) ⊎ ((pair : Closing × Closing) × (r ≡ Some pair) × (others ≡ Err bad))
then_bad n bad None others h = inl (refl, cc)
then_bad n bad (Some pair) (Ok more) h = cc
then_bad n bad (Some pair) (Err other) h = inr (pair, refl, cc)

pairs_found : (room n : ℕ) (lines : List (List ℕ)) (pairs : Pairs) → pairs_of room n lines ≡ Ok pairs → SpellsPairs pairs.zero pairs.one lines × (length pairs.zero ≤ room)
unfolding pairs_of
pairs_found room n [] pairs h =
    let e : record { zero = []; one = [] } ≡ pairs = cc in
    subst (λ (p : Pairs). SpellsPairs p.zero p.one [] × (length p.zero ≤ room)) e (tt, omega arith)
pairs_found room n (line ∷ lines) pairs h = at_test (nat_eq room 0) refl (λ ps k. pairs_found (room - 1) (n + 1) lines ps k) h
  where
    at_test : (t : Bool) → nat_eq room 0 ≡ t
        → ((ps : Pairs) → pairs_of (room - 1) (n + 1) lines ≡ Ok ps → SpellsPairs ps.zero ps.one lines × (length ps.zero ≤ room - 1))
        → cond t (Err n) (pair_then n (pair_of line) (pairs_of (room - 1) (n + 1) lines)) ≡ Ok pairs
        → SpellsPairs pairs.zero pairs.one (line ∷ lines) × (length pairs.zero ≤ room)
    at_test true e others k = cc
    at_test false e others k =
        let f = then_found n (pair_of line) (pairs_of (room - 1) (n + 1) lines) pairs k in
        let r = others f.more f.later in
        let some = eqb-false room 0 e in
        subst (λ (p : Pairs). SpellsPairs p.zero p.one (line ∷ lines) × (length p.zero ≤ room)) f.is
        ((pair_found line f.pair f.first, r.0), omega (arith, r.1, some))

pairs_only : (room n : ℕ) (zero one : List Closing) (lines : List (List ℕ)) → length zero ≤ room → SpellsPairs zero one lines → pairs_of room n lines ≡ Ok (record { zero = zero; one = one })
unfolding pairs_of
pairs_only room n [] [] [] few h = refl
pairs_only room n [] [] (line ∷ lines) few h = absurd h
pairs_only room n [] (d ∷ one) lines few h = absurd h
pairs_only room n (c ∷ zero) [] lines few h = absurd h
pairs_only room n (c ∷ zero) (d ∷ one) [] few h = absurd h
pairs_only room n (c ∷ zero) (d ∷ one) (line ∷ lines) few h =
    let other : nat_eq room 0 ≡ false = ne_eqb room 0 (λ e. omega (arith, e, few)) in
    rw (other, pair_only c d line h.0, pairs_only (room - 1) (n + 1) zero one lines (omega (arith, few)) h.1) refl

-- the first bad line of those that begin with line n, with room for so many pairs
pub record IsBadFrom (room n bad : ℕ) (lines : List (List ℕ)) : Type 0 where
  pub before : List (List ℕ)
  pub line : List ℕ
  pub behind : List (List ℕ)
  pub split : lines ≡ before ++ line ∷ behind
  pub pairs : Pairs
  pub spelled : SpellsPairs pairs.zero pairs.one before
  pub few : length before ≤ room
  pub cause : (length before ≡ room) ⊎ IsNoPair line
  pub place : bad ≡ length before + n

pairs_bad : (room n bad : ℕ) (lines : List (List ℕ)) → pairs_of room n lines ≡ Err bad → IsBadFrom room n bad lines
unfolding pairs_of
pairs_bad room n bad [] h = cc
pairs_bad room n bad (line ∷ lines) h = at_test (nat_eq room 0) refl (λ k. pairs_bad (room - 1) (n + 1) bad lines k) h
  where
    here : (n ≡ bad) → (0 ≡ room) ⊎ IsNoPair line → IsBadFrom room n bad (line ∷ lines)
    here is cause = record { before = []; line = line; behind = lines; split = refl; pairs = record { zero = []; one = [] }; spelled = tt; few = omega arith; cause = cause; place = omega (arith, is) }

    one_more : {m : ℕ} {X : Type 0} → (m ≡ room - 1) ⊎ X → (room ≡ 0 → ⊥) → (suc m ≡ room) ⊎ X
    one_more (inl e) more = inl (omega (arith, e, more))
    one_more (inr x) more = inr x

    at_then : nat_eq room 0 ≡ false → (pairs_of (room - 1) (n + 1) lines ≡ Err bad → IsBadFrom (room - 1) (n + 1) bad lines)
        → ((pair_of line ≡ None) × (n ≡ bad)) ⊎ ((pair : Closing × Closing) × (pair_of line ≡ Some pair) × (pairs_of (room - 1) (n + 1) lines ≡ Err bad))
        → IsBadFrom room n bad (line ∷ lines)
    at_then e others (inl (none, is)) = here is (inr (no_pair line none))
    at_then e others (inr (pair, is, k)) =
        let r = others k in
        let more = eqb-false room 0 e in
        record {
          before = line ∷ r.before;
          line = r.line;
          behind = r.behind;
          split = ap (λ ls. line ∷ ls) r.split;
          pairs = record { zero = pair.0 ∷ r.pairs.zero; one = pair.1 ∷ r.pairs.one };
          spelled = (pair_found line pair is, r.spelled);
          few = omega (arith, r.few, more);
          cause = one_more r.cause more;
          place = omega (arith, r.place);
        }

    at_test : (t : Bool) → nat_eq room 0 ≡ t → (pairs_of (room - 1) (n + 1) lines ≡ Err bad → IsBadFrom (room - 1) (n + 1) bad lines)
        → cond t (Err n) (pair_then n (pair_of line) (pairs_of (room - 1) (n + 1) lines)) ≡ Err bad → IsBadFrom room n bad (line ∷ lines)
    at_test true e others k = let is : n ≡ bad = cc in here is (inl (sym (eqb-true room 0 e)))
    at_test false e others k = at_then e others (then_bad n bad (pair_of line) (pairs_of (room - 1) (n + 1) lines) k)

bad_here : (n : ℕ) (t : Bool) → cond {A = Result Pairs ℕ} t (Err n) (Err n) ≡ Err (0 + n)
bad_here n true = ap Err (sym (zero-add n))
bad_here n false = ap Err (sym (zero-add n))

bad_only : (room n : ℕ) (before : List (List ℕ)) (line : List ℕ) (behind : List (List ℕ)) (zero one : List Closing) → SpellsPairs zero one before → length before ≤ room →
    (length before ≡ room) ⊎ IsNoPair line → pairs_of room n (before ++ line ∷ behind) ≡ Err (length before + n)
unfolding pairs_of
bad_only room n [] line behind zero one spelled few (inl full) = let none : nat_eq room 0 ≡ true = rw (sym full) refl in rw none (ap Err (sym (zero-add n)))
bad_only room n [] line behind zero one spelled few (inr none) = rw (none_of line (pair_of line) refl none) (bad_here n (nat_eq room 0))
bad_only room n (first ∷ before) line behind [] [] spelled few cause = absurd spelled
bad_only room n (first ∷ before) line behind [] (d ∷ one) spelled few cause = absurd spelled
bad_only room n (first ∷ before) line behind (c ∷ zero) [] spelled few cause = absurd spelled
bad_only room n (first ∷ before) line behind (c ∷ zero) (d ∷ one) spelled few cause =
    let other : nat_eq room 0 ≡ false = ne_eqb room 0 (λ e. omega (arith, e, few)) in
    rw (other, pair_only c d first spelled.0, bad_only (room - 1) (n + 1) before line behind zero one spelled.1 (omega (arith, few)) (one_less cause)) (ap Err (omega arith))
  where
    one_less : (suc (length before) ≡ room) ⊎ IsNoPair line → (length before ≡ room - 1) ⊎ IsNoPair line
    one_less (inl e) = inl (omega (arith, e))
    one_less (inr none) = inr none

no_header : (line : List ℕ) → header_of line ≡ None → (seed : List ℕ) → SpellsHeader seed line → ⊥
no_header line none seed spelled = let some = header_only line seed spelled in cc

no_header_of : (line : List ℕ) (r : Option (List ℕ)) → header_of line ≡ r → ((seed : List ℕ) → SpellsHeader seed line → ⊥) → header_of line ≡ None
no_header_of line None is none = is
no_header_of line (Some seed) is none = absurd (none seed (header_found line seed is))

under_found : (seed : List ℕ) (r : Result Pairs ℕ) (batch : Batch) → under seed r ≡ Ok batch → (r ≡ Ok batch.pairs) × (seed ≡ batch.seed)
under_found seed (Ok pairs) batch h = (cc, cc)
under_found seed (Err bad) batch h = cc

under_bad : (seed : List ℕ) (r : Result Pairs ℕ) (bad : ℕ) → under seed r ≡ Err bad → r ≡ Err bad
under_bad seed (Ok pairs) bad h = cc
under_bad seed (Err other) bad h = cc

pub batch_found : (text : List ℕ) (batch : Batch) → batch_of text ≡ Ok batch → SpellsBatch batch text
unfolding batch_of_lines
batch_found text batch h = at_lines (lines_of text) (lines_found text) h
  where
    at_header : (first : List ℕ) (lines : List (List ℕ)) → AreLines (first ∷ lines) text → (r : Option (List ℕ)) → header_of first ≡ r → header_then r lines ≡ Ok batch → SpellsBatch batch text
    at_header first lines are None e k = cc
    at_header first lines are (Some seed) e k =
        let u = under_found seed _ batch k in
        let r = pairs_found most_pairs 2 lines batch.pairs u.0 in
        record { first = first; lines = lines; are = are; header = subst (λ (x : List ℕ). SpellsHeader x first) u.1 (header_found first seed e); pairs = r.0; few = r.1 }

    at_lines : (lines : List (List ℕ)) → AreLines lines text → batch_of_lines lines ≡ Ok batch → SpellsBatch batch text
    at_lines [] are k = cc
    at_lines (first ∷ lines) are k = at_header first lines are (header_of first) refl k

pub batch_only : (text : List ℕ) (batch : Batch) → SpellsBatch batch text → batch_of text ≡ Ok batch
unfolding batch_of_lines
batch_only text batch s =
    rw (lines_only (s.first ∷ s.lines) text s.are, header_only s.first batch.seed s.header, pairs_only most_pairs 2 batch.pairs.zero batch.pairs.one s.lines s.few s.pairs) refl

pub bad_found : (text : List ℕ) (n : ℕ) → batch_of text ≡ Err n → IsFirstBadLine n text
unfolding batch_of_lines
bad_found text n h = at_lines (lines_of text) (lines_found text) h
  where
    at_header : (first : List ℕ) (lines : List (List ℕ)) → (r : Option (List ℕ)) → header_of first ≡ r → header_then r lines ≡ Err n → IsFirstBadOf n (first ∷ lines)
    at_header first lines None e k = inl (cc, no_header first e)
    at_header first lines (Some seed) e k =
        let r = pairs_bad most_pairs 2 n lines (under_bad seed _ n k) in
        inr (seed, header_found first seed e, record { before = r.before; line = r.line; behind = r.behind; split = r.split; pairs = r.pairs; spelled = r.spelled; few = r.few; bad = r.cause; place = r.place })

    at_lines : (lines : List (List ℕ)) → AreLines lines text → batch_of_lines lines ≡ Err n → IsFirstBadLine n text
    at_lines [] are k = ([], are, cc)
    at_lines (first ∷ lines) are k = (first ∷ lines, are, at_header first lines (header_of first) refl k)

pub bad_is_first : (text : List ℕ) (n : ℕ) → IsFirstBadLine n text → batch_of text ≡ Err n
unfolding batch_of_lines
bad_is_first text n ([], are, is) = rw (lines_only [] text are) (ap Err (sym is))
bad_is_first text n (first ∷ lines, are, inl (is, none)) = rw (lines_only (first ∷ lines) text are, no_header_of first (header_of first) refl none) (ap Err (sym is))
bad_is_first text n (first ∷ lines, are, inr (seed, head, r)) =
    rw (
      lines_only (first ∷ lines) text are,
      header_only first seed head,
      r.split,
      bad_only most_pairs 2 r.before r.line r.behind r.pairs.zero r.pairs.one r.spelled r.few r.bad,
    ) (ap Err (sym r.place))

pub as_many : (zero one : List Closing) (lines : List (List ℕ)) → SpellsPairs zero one lines → length one ≡ length zero
as_many [] [] [] h = refl
as_many [] [] (line ∷ lines) h = absurd h
as_many [] (d ∷ one) lines h = absurd h
as_many (c ∷ zero) [] lines h = absurd h
as_many (c ∷ zero) (d ∷ one) [] h = absurd h
as_many (c ∷ zero) (d ∷ one) (line ∷ lines) h = ap suc (as_many zero one lines h.1)
