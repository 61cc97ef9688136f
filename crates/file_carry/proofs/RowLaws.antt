-- Boxes that lie one after the other.
use Rattle.std.proofs.Common.{◌≡◌, ℕ, zero, suc, ◌+◌, ◌-◌, ◌*◌, ◌<◌, ◌≤◌, max, ltb, eqb, ◌&&◌, Bool, true, false, cond, inl, inr, List, [], ◌∷◌, ◌++◌, length, get_or, take, drop, refl, ap, sym, ◌∙◌, arith, append_assoc}
use Rattle.std.specs.Prelude.{Result, Ok, Err}
use Rattle.std.proofs.lemmas.List.{take_all, take-append-le, drop-append-le, drop-drop, length-drop}
use Rattle.std.proofs.lemmas.Bool.{true≢false, and_parts, leb-true, eqb-true, cases_eq, eq-eqb, ne_eqb}
use Rattle.std.proofs.lemmas.Nat.{mul-le}
use Rattle.file_carry.specs.Boxes.{id_in, index_in, count_in, is_zeros, content_in, used_in, is_use, is_part, before, joined, join}
use Rattle.file_carry.specs.Joining.{rows}

pub rows_length : (w n : ℕ) (bytes : List ℕ) → length (rows w n bytes) ≡ n
rows_length w zero bytes = refl
rows_length w (suc n) bytes = omega (arith, rows_length w n (drop w bytes))

pub rows_push : (w n : ℕ) (bytes more : List ℕ) → length bytes ≡ n * w → length more ≡ w → rows w (n + 1) (bytes ++ more) ≡ rows w n bytes ++ more ∷ []
rows_push w n bytes more len wide = ap (λ k. rows w k (bytes ++ more)) one ∙ go n bytes len where
  one : n + 1 ≡ suc n
  one = omega arith

  go : (n : ℕ) (bytes : List ℕ) → length bytes ≡ n * w → rows w (suc n) (bytes ++ more) ≡ rows w n bytes ++ more ∷ []
  go zero [] l = ap (λ (t : List ℕ). t ∷ []) (take_all w more (omega arith))
  go zero (x ∷ xs) l = absurd (omega arith)
  go (suc n) bytes l =
      let fits : w ≤ length bytes = omega arith in
      let rest : length (drop w bytes) ≡ n * w = omega (arith, length-drop w bytes) in
      ap (λ (t : List ℕ). t ∷ rows w (suc n) (drop w (bytes ++ more))) (take-append-le w bytes more fits)
      ∙ ap (λ (t : List ℕ). take w bytes ∷ rows w (suc n) t) (drop-append-le w bytes more fits)
      ∙ ap (λ (t : List (List ℕ)). take w bytes ∷ t) (go n (drop w bytes) rest)

pub rows_get : (w n i : ℕ) (bytes : List ℕ) → i < n → get_or (rows w n bytes) i [] ≡ take w (drop (i * w) bytes)
rows_get w zero i bytes h = absurd (omega arith)
rows_get w (suc n) zero bytes h = ap (λ k. take w (drop k bytes)) (let z : 0 ≡ 0 * w = omega arith in z)
rows_get w (suc n) (suc i) bytes h =
    rows_get w n i (drop w bytes) (omega arith)
    ∙ ap (take w) (drop-drop (i * w) w bytes ∙ ap (λ k. drop k bytes) (let s : w + i * w ≡ suc i * w = omega arith in s))

pub rows_cons : (w n i : ℕ) (bytes : List ℕ) → i < n → rows w (n - i) (drop (i * w) bytes) ≡ take w (drop (i * w) bytes) ∷ rows w (n - (i + 1)) (drop ((i + 1) * w) bytes)
rows_cons w n i bytes h =
    let step : n - i ≡ suc (n - (i + 1)) = omega arith in
    let next : i * w + w ≡ (i + 1) * w = omega arith in
    ap (λ k. rows w k (drop (i * w) bytes)) step
    ∙ ap (λ (t : List ℕ). take w (drop (i * w) bytes) ∷ rows w (n - (i + 1)) t) (drop-drop w (i * w) bytes ∙ ap (λ k. drop k bytes) next)

-- ---- a walk over the boxes

pub before_twice : (a b : List ℕ) (r : Result (List ℕ) ℕ) → before a (before b r) ≡ before (a ++ b) r
before_twice a b (Ok c) = ap Ok (sym (append_assoc a b c))
before_twice a b (Err i) = refl

pub before_none : (r : Result (List ℕ) ℕ) → r ≡ before [] r
before_none (Ok c) = refl
before_none (Err i) = refl

-- what is left to walk from box i on
abbrev pub left_at : ℕ → ℕ → ℕ → ℕ → ℕ → List ℕ → ℕ → Result (List ℕ) ℕ
left_at id count total w n bytes i = joined id count i (total - i) (rows w (n - i) (drop (i * w) bytes))

walk_step : (id count total w n i : ℕ) (bytes : List ℕ) → i < total → i < n →
    left_at id count total w n bytes i ≡ cond (is_part id count i (take w (drop (i * w) bytes))) (before (content_in (take w (drop (i * w) bytes))) (left_at id count total w n bytes (i + 1))) (Err i)
walk_step id count total w n i bytes below within =
    let step : total - i ≡ suc (total - (i + 1)) = omega arith in
    ap (λ k. joined id count i k (rows w (n - i) (drop (i * w) bytes))) step
    ∙ ap (joined id count i (suc (total - (i + 1)))) (rows_cons w n i bytes within)

pub walk_on : (id count total w n i : ℕ) (bytes file part : List ℕ) → i < total → i < n → part ≡ take w (drop (i * w) bytes) → is_part id count i part ≡ true →
    before file (left_at id count total w n bytes i) ≡ before (file ++ content_in part) (left_at id count total w n bytes (i + 1))
walk_on id count total w n i bytes file part below within is holds =
    let p : List ℕ = take w (drop (i * w) bytes) in
    let next : Result (List ℕ) ℕ = left_at id count total w n bytes (i + 1) in
    ap (before file) (walk_step id count total w n i bytes below within ∙ ap (λ b. cond b (before (content_in p) next) (Err i)) (ap (is_part id count i) (sym is) ∙ holds))
    ∙ before_twice file (content_in p) next
    ∙ ap (λ (t : List ℕ). before (file ++ content_in t) next) (sym is)

pub walk_fails : (id count total w n i : ℕ) (bytes file part : List ℕ) → i < total → i < n → part ≡ take w (drop (i * w) bytes) → is_part id count i part ≡ false →
    before file (left_at id count total w n bytes i) ≡ Err i
walk_fails id count total w n i bytes file part below within is fails =
    let p : List ℕ = take w (drop (i * w) bytes) in
    let next : Result (List ℕ) ℕ = left_at id count total w n bytes (i + 1) in
    ap (before file) (walk_step id count total w n i bytes below within ∙ ap (λ b. cond b (before (content_in p) next) (Err i)) (ap (is_part id count i) (sym is) ∙ fails))

pub walk_ends : (id count total w n i : ℕ) (bytes file : List ℕ) → i < total → n ≤ i → before file (left_at id count total w n bytes i) ≡ Err i
walk_ends id count total w n i bytes file below past =
    let step : total - i ≡ suc (total - (i + 1)) = omega arith in
    let none : n - i ≡ 0 = omega arith in
    ap (λ k. before file (joined id count i k (rows w (n - i) (drop (i * w) bytes)))) step
    ∙ ap (λ k. before file (joined id count i (suc (total - (i + 1))) (rows w k (drop (i * w) bytes)))) none

pub walk_done : (id count total w n i : ℕ) (bytes file : List ℕ) → total ≤ i → before file (left_at id count total w n bytes i) ≡ Ok (file ++ [])
walk_done id count total w n i bytes file all =
    let none : total - i ≡ 0 = omega arith in
    ap (λ k. before file (joined id count i k (rows w (n - i) (drop (i * w) bytes)))) none

use_fits : (room index count used : ℕ) → is_use room index count used ≡ true → used ≤ room
use_fits room index count used h = elim (cases_eq (index + 1) count) as (λ _. used ≤ room) [
  | inl last ↦ (let t = rw (eq-eqb (index + 1) count last) at h in leb-true used room (and_parts _ _ t).0)
  | inr more ↦ (let t = rw (ne_eqb (index + 1) count more) at h in omega (arith, eqb-true used room t))
]

seventh : (a b c d e f : Bool) → (a && (b && (c && (d && (e && f))))) ≡ true → e ≡ true
seventh true true true true true f h = refl
seventh true true true true false f h = h
seventh true true true false e f h = absurd (true≢false (sym h))
seventh true true false d e f h = absurd (true≢false (sym h))
seventh true false c d e f h = absurd (true≢false (sym h))
seventh false b c d e f h = absurd (true≢false (sym h))

pub part_fits : (id count index : ℕ) (box : List ℕ) → is_part id count index box ≡ true → used_in box ≤ length box - 16
unfolding is_part
part_fits id count index box h =
    use_fits (length box - 16) index count (used_in box)
    (seventh (ltb index count) (eqb (id_in box) id) (eqb (index_in box) index) (eqb (count_in box) count) (is_use (length box - 16) index count (used_in box)) (is_zeros (take 2 (drop 14 box)) && is_zeros (drop (used_in box) (drop 16 box))) h)

pub join_first : (w n : ℕ) (bytes part : List ℕ) → 0 < n → part ≡ take w (drop (0 * w) bytes) → join (rows w n bytes) ≡ joined (id_in part) (count_in part) 0 (max 1 (count_in part)) (rows w n bytes)
unfolding join
join_first w zero bytes part h is = absurd (omega arith)
join_first w (suc n) bytes part h is =
    let z : 0 * w ≡ 0 = omega arith in
    let same : take w bytes ≡ part = ap (λ k. take w (drop k bytes)) (sym z) ∙ sym is in
    ap (λ (p : List ℕ). joined (id_in p) (count_in p) 0 (max 1 (count_in p)) (rows w (suc n) bytes)) same

pub join_none : (w : ℕ) (bytes : List ℕ) → join (rows w 0 bytes) ≡ Err 0
unfolding join
join_none w bytes = refl

-- one more part needs no more room
pub walk_room : (w i n : ℕ) → i < n → i * w + w ≤ n * w
walk_room w i n h = let more : (i + 1) * w ≤ n * w = mul-le (i + 1) w n w (omega arith) (omega arith) in omega (arith, more)

pub walk_start : (id count total w n : ℕ) (bytes : List ℕ) → joined id count 0 total (rows w n bytes) ≡ before [] (left_at id count total w n bytes 0)
walk_start id count total w n bytes =
    let z : 0 ≡ 0 * w = omega arith in
    let t : total ≡ total - 0 = omega arith in
    let m : n ≡ n - 0 = omega arith in
    before_none (joined id count 0 total (rows w n bytes))
    ∙ ap (λ k. before [] (joined id count 0 total (rows w n (drop k bytes)))) z
    ∙ ap (λ k. before [] (joined id count 0 k (rows w n (drop (0 * w) bytes)))) t
    ∙ ap (λ k. before [] (joined id count 0 (total - 0) (rows w k (drop (0 * w) bytes)))) m

pub starts_empty : (id count total w n : ℕ) (bytes file : List ℕ) → file ≡ [] → joined id count 0 total (rows w n bytes) ≡ before file (left_at id count total w n bytes 0)
starts_empty id count total w n bytes file e = walk_start id count total w n bytes ∙ ap (λ (t : List ℕ). before t (left_at id count total w n bytes 0)) (sym e)

pub join_of_first : (w n id count : ℕ) (bytes part : List ℕ) → 0 < n → part ≡ take w (drop (0 * w) bytes) → id ≡ id_in part → count ≡ count_in part → join (rows w n bytes) ≡ joined id count 0 (max 1 count) (rows w n bytes)
join_of_first w n id count bytes part h is id_is count_is =
    join_first w n bytes part h is
    ∙ ap (λ k. joined k (count_in part) 0 (max 1 (count_in part)) (rows w n bytes)) (sym id_is)
    ∙ ap (λ k. joined id k 0 (max 1 k) (rows w n bytes)) (sym count_is)

pub join_of_none : (w n : ℕ) (bytes : List ℕ) → n ≡ 0 → join (rows w n bytes) ≡ Err 0
join_of_none w n bytes e = ap (λ k. join (rows w k bytes)) e ∙ join_none w bytes
