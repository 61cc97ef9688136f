-- The places of a letter are the card's addresses, each once.
use Rattle.std.proofs.Common.{◌≡◌, ◌≢◌, ℕ, zero, suc, ◌+◌, ◌*◌, ◌%◌, ◌^◌, ◌<◌, ◌≤◌}
use Rattle.std.proofs.Common.{eqb, inl, inr, List, [], ◌∷◌, ◌++◌, length, get_or, set, take, drop, refl}
use Rattle.std.proofs.Common.{ap, ap₂, sym, subst, ◌∙◌, arith}
use Rattle.std.specs.Prelude.{All, AllPairs, IsPermutation}
use Rattle.std.specs.List.{range_with_len, swap}
use Rattle.std.proofs.lemmas.Nat.{mod_below}
use Rattle.std.proofs.lemmas.Bool.{cases_eq, eq-eqb, ne_eqb}
use Rattle.std.proofs.lemmas.Bool.Decides.{Decides-eqb}
use Rattle.std.proofs.lemmas.List.{length-take, length-drop, length-set, length_push}
use Rattle.std.proofs.lemmas.List.{take_more_set, get_or-take}
use Rattle.std.proofs.lemmas.List.Edits.{length-swap, swap_is}
use Rattle.std.proofs.lemmas.List.Folds.{flat_map-map}
use Rattle.std.proofs.lemmas.List.FromFn.{length-range_with_len, get_or-range_with_len}
use Rattle.std.proofs.lemmas.List.Sorted.{IsPermutation-refl, IsPermutation-trans, IsPermutation-append_left}
use Rattle.std.proofs.lemmas.List.Sorted.{IsPermutation-swap, All-permutation}
use Rattle.std.proofs.lemmas.Map.Keys.{IsDistinct-IsPermutation}
use Rattle.std.proofs.lemmas.Map.Made.{AllPairs-from_IsDistinct, IsDistinct-from_AllPairs}
use Rattle.rand_chacha.specs.ChaCha.{ChaCha, next_word, word_at}
use Rattle.letter_pieces.specs.Sizes.{copies}
use Rattle.letter_pieces.specs.Pieces.{parts_of, piece_of}
use Rattle.letter_pieces.specs.Places.{draw_key, at_draw, drawn, places, places_of}
use Rattle.letter_pieces.specs.Laws.{PlacesPermuted, PartsAreCopied, letter_places, PlacesDiffer}
use Rattle.letter_pieces.specs.Laws.{PlacesAreOnTheCard}
use Rattle.letter_pieces.proofs.CutLemmas.{range_more, blocks_join}

-- ---- a draw

abbrev at_word : ℕ → ℕ → ChaCha
at_word id n = record { key = draw_key id; stream = 0; word_pos = n }

-- two words one behind the other are the draw that begins with them
pub drawn_is : (id i low high : ℕ) (s t : ChaCha) → i < 64 → (low, s) ≡ next_word 10 (at_draw id i)
    → (high, t) ≡ next_word 10 s
    → (low + high * 2 ^ 32 ≡ drawn id i) × (t ≡ at_draw id (i + 1))
unfolding drawn
drawn_is id i low high s t h first second =
    let one : (2 * i + 1) % 2 ^ 68 ≡ 2 * i + 1 = omega arith in
    let two : (2 * i + 1 + 1) % 2 ^ 68 ≡ 2 * (i + 1) = omega arith in
    let low_is : low ≡ word_at 10 (draw_key id) 0 (2 * i) = ap (λ (q : ℕ × ChaCha). q.0) first in
    let s_is : s ≡ at_word id (2 * i + 1) = ap (λ (q : ℕ × ChaCha). q.1) first ∙ ap (at_word id) one in
    let then : (high, t) ≡ next_word 10 (at_word id (2 * i + 1)) = second ∙ ap (next_word 10) s_is in
    let high_is : high ≡ word_at 10 (draw_key id) 0 (2 * i + 1) = ap (λ (q : ℕ × ChaCha). q.0) then in
    let t_is : t ≡ at_word id (2 * (i + 1)) = ap (λ (q : ℕ × ChaCha). q.1) then ∙ ap (at_word id) two in
    (ap₂ (λ a b. a + b * 2 ^ 32) low_is high_is, t_is)

-- ---- the shuffle

pub length-places : (id n : ℕ) → length (places id n) ≡ n
unfolding places
length-places id zero = refl
length-places id (suc n) =
    length-swap (places id n ++ n ∷ []) n (drawn id n % suc n)
    ∙ omega (arith, length_push (places id n) n, length-places id n)

take_set : (n : ℕ) (xs : List ℕ) (i y : ℕ) → take n (set xs i y) ≡ set (take n xs) i y
take_set zero xs i y = refl
take_set (suc n) [] i y = refl
take_set (suc n) (x ∷ xs) zero y = refl
take_set (suc n) (x ∷ xs) (suc i) y = ap (λ (t : List ℕ). x ∷ t) (take_set n xs i y)

take_swap : (n : ℕ) (xs : List ℕ) (i j : ℕ) → i < n → j < n → n ≤ length xs
    → take n (swap xs i j) ≡ swap (take n xs) i j
take_swap n xs i j below under fits =
    let len : length (take n xs) ≡ n = omega (arith, length-take n xs) in
    ap (take n) (sym (swap_is xs i j 0 (omega arith) (omega arith)))
    ∙ take_set n (set xs i (get_or xs j 0)) j (get_or xs i 0)
    ∙ ap (λ (t : List ℕ). set t j (get_or xs i 0)) (take_set n xs i (get_or xs j 0))
    ∙ ap₂ (λ a b. set (set (take n xs) i a) j b)
    (sym (get_or-take n xs j 0 under)) (sym (get_or-take n xs i 0 below))
    ∙ swap_is (take n xs) i j 0 (omega (arith, len)) (omega (arith, len))

-- one more address put last, and changed with one of all so far
pub place_more : (id i other : ℕ) (order : List ℕ) → i < length order → take i order ≡ places id i
    → other ≡ drawn id i % (i + 1) → take (i + 1) (swap (set order i i) i other) ≡ places id (i + 1)
unfolding places
place_more id i other order h first is =
    let below : drawn id i % (i + 1) < i + 1 = mod_below (drawn id i) (i + 1) (omega arith) in
    let next : suc i ≡ i + 1 = omega arith in
    let len = length-set order i i in
    take_swap (i + 1) (set order i i) i other (omega arith) (omega (arith, is, below)) (omega (arith, len))
    ∙ ap (λ (t : List ℕ). swap t i other) (take_more_set order i i h ∙ ap (λ (t : List ℕ). t ++ i ∷ []) first)
    ∙ ap (swap (places id i ++ i ∷ []) i) (is ∙ ap (λ n. drawn id i % n) (sym next))
    ∙ ap (places id) next

pub permuted : PlacesPermuted
unfolding places
permuted zero id = IsPermutation-refl []
permuted (suc n) id =
    let xs : List ℕ = places id n ++ n ∷ [] in
    let j : ℕ = drawn id n % suc n in
    let below : j < suc n = mod_below (drawn id n) (suc n) (omega arith) in
    let len : length xs ≡ suc n = omega (arith, length_push (places id n) n, length-places id n) in
    subst (λ (r : List ℕ). IsPermutation r (swap xs n j)) (sym (range_more n))
    (IsPermutation-trans (range_with_len 0 n ++ n ∷ []) xs (swap xs n j)
    (IsPermutation-append_left (n ∷ []) (range_with_len 0 n) (places id n) (permuted n id))
    (IsPermutation-swap xs (swap xs n j) n j (omega (arith, len)) (omega (arith, len, below)) refl))

eqb_flips : (x y : ℕ) → eqb x y ≡ eqb y x
eqb_flips x y = elim (cases_eq x y) as (λ _. eqb x y ≡ eqb y x) [
  | inl same ↦ eq-eqb x y same ∙ sym (eq-eqb y x (sym same))
  | inr other ↦ ne_eqb x y other ∙ sym (ne_eqb y x (λ e. other (sym e)))
]

range_differs : (n : ℕ) → AllPairs (λ a b. a ≢ b) (range_with_len 0 n)
range_differs n i j d below within e =
    let len = length-range_with_len 0 n in
    let left = get_or-range_with_len 0 n i d (omega (arith, len, below, within)) in
    let right = get_or-range_with_len 0 n j d (omega (arith, len, within)) in
    omega (arith, left, right, e, below)

places_differ : (n id : ℕ) → AllPairs (λ a b. a ≢ b) (places id n)
places_differ n id =
    AllPairs-from_IsDistinct Decides-eqb (places id n)
    (IsDistinct-IsPermutation eqb eqb_flips (range_with_len 0 n) (places id n) (permuted n id)
    (IsDistinct-from_AllPairs Decides-eqb (range_with_len 0 n) (range_differs n)))

places_below : (n id : ℕ) → All (λ a. a < n) (places id n)
places_below n id =
    All-permutation (λ a. a < n) (range_with_len 0 n) (places id n) (permuted n id)
    (λ k d within. let len = length-range_with_len 0 n in
    let is = get_or-range_with_len 0 n k d (omega (arith, len, within)) in omega (arith, is, len, within))

-- ---- laws

pub copied : PartsAreCopied
copied n id part below =
    let rest : List ℕ = drop (part * copies) (places id n) in
    omega (
      arith,
      below,
      length-take copies rest,
      length-drop (part * copies) (places id n),
      length-places id n,
    )

-- the places of a letter's pieces are the front of its places
front_is : (n width id : ℕ) (text : List ℕ)
    → letter_places n width id text ≡ take (parts_of width (length text) * copies) (places id n)
front_is n width id text =
    let count : ℕ = parts_of width (length text) in
    flat_map-map (places_of n) (piece_of width id text) (range_with_len 0 count)
    ∙ blocks_join copies (places id n) count

front_differs : (m : ℕ) (xs : List ℕ) → AllPairs (λ a b. a ≢ b) xs → AllPairs (λ a b. a ≢ b) (take m xs)
front_differs m xs differ i j d below within e =
    let len = length-take m xs in
    differ i j d below (omega (arith, len, within))
    (sym (get_or-take m xs i d (omega (arith, len, within, below)))
    ∙ e
    ∙ get_or-take m xs j d (omega (arith, len, within)))

pub differ : PlacesDiffer
differ n width id text =
    subst (λ (t : List ℕ). AllPairs (λ a b. a ≢ b) t) (sym (front_is n width id text))
    (front_differs (parts_of width (length text) * copies) (places id n) (places_differ n id))

front_below : (n m : ℕ) (xs : List ℕ) → All (λ a. a < n) xs → All (λ a. a < n) (take m xs)
front_below n m xs all k d within =
    let len = length-take m xs in
    subst (λ a. a < n) (sym (get_or-take m xs k d (omega (arith, len, within))))
    (all k d (omega (arith, len, within)))

pub on_the_card : PlacesAreOnTheCard
on_the_card n width id text =
    subst (λ (t : List ℕ). All (λ a. a < n) t) (sym (front_is n width id text))
    (front_below n (parts_of width (length text) * copies) (places id n) (places_below n id))
