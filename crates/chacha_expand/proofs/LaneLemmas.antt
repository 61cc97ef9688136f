-- Eight lanes side by side.
use Rattle.std.proofs.Common.{◌≡◌, ℕ, zero, suc, ◌<◌, ◌≤◌, ◌+◌, ◌-◌, ◌*◌, ◌/◌, ◌%◌, ◌^◌, List, [], ◌∷◌, length, map, get_or, slice_index, replicate, bit_or, bit_xor, arith, refl, sym, ap, ◌∙◌}
use Rattle.std.specs.Simd.Lanes.{zip2, Each1}
use mir.Syntax.{Width, w32, w64}
use mir.Val.{Fits}
use Rattle.std.proofs.lemmas.Grind.{same_number_lists}
use Rattle.std.proofs.lemmas.List.{get_or-map, length-map}
use Rattle.std.proofs.lemmas.Simd.{length-zip2, get_or-zip2, get_or-replicate, Each1-get_or, Each1-from_get_or}
use Rattle.rand_chacha.specs.Block.{xor_rotate, initial_state, block_word}
use Rattle.rand_chacha.specs.ChaCha.{word_at}
use Rattle.chacha_expand.specs.KeyLanes.{state_word}

-- what holds of each of the eight lanes
pub below_eight : (P : ℕ → Type 0) → P 0 → P 1 → P 2 → P 3 → P 4 → P 5 → P 6 → P 7 → (j : ℕ) → j < 8 → P j
below_eight P p0 p1 p2 p3 p4 p5 p6 p7 zero h = p0
below_eight P p0 p1 p2 p3 p4 p5 p6 p7 (suc zero) h = p1
below_eight P p0 p1 p2 p3 p4 p5 p6 p7 (suc (suc zero)) h = p2
below_eight P p0 p1 p2 p3 p4 p5 p6 p7 (suc (suc (suc zero))) h = p3
below_eight P p0 p1 p2 p3 p4 p5 p6 p7 (suc (suc (suc (suc zero)))) h = p4
below_eight P p0 p1 p2 p3 p4 p5 p6 p7 (suc (suc (suc (suc (suc zero))))) h = p5
below_eight P p0 p1 p2 p3 p4 p5 p6 p7 (suc (suc (suc (suc (suc (suc zero)))))) h = p6
below_eight P p0 p1 p2 p3 p4 p5 p6 p7 (suc (suc (suc (suc (suc (suc (suc zero))))))) h = p7
below_eight P p0 p1 p2 p3 p4 p5 p6 p7 (suc (suc (suc (suc (suc (suc (suc (suc n)))))))) h = absurd (omega arith)

-- what holds of each of the sixteen words, by two runs of eight
abbrev pub eight_more : ℕ → ℕ
eight_more k = suc (suc (suc (suc (suc (suc (suc (suc k)))))))

pub below_sixteen : (P : ℕ → Type 0) → ((k : ℕ) → k < 8 → P k) → ((k : ℕ) → k < 8 → P (eight_more k)) → (k : ℕ) → k < 16 → P k
below_sixteen P low high zero h = low 0 (omega arith)
below_sixteen P low high (suc zero) h = low 1 (omega arith)
below_sixteen P low high (suc (suc zero)) h = low 2 (omega arith)
below_sixteen P low high (suc (suc (suc zero))) h = low 3 (omega arith)
below_sixteen P low high (suc (suc (suc (suc zero)))) h = low 4 (omega arith)
below_sixteen P low high (suc (suc (suc (suc (suc zero))))) h = low 5 (omega arith)
below_sixteen P low high (suc (suc (suc (suc (suc (suc zero)))))) h = low 6 (omega arith)
below_sixteen P low high (suc (suc (suc (suc (suc (suc (suc zero))))))) h = low 7 (omega arith)
below_sixteen P low high (suc (suc (suc (suc (suc (suc (suc (suc n)))))))) h = high n (omega arith)

-- what holds of each of the four words
pub below_four : (P : ℕ → Type 0) → P 0 → P 1 → P 2 → P 3 → (k : ℕ) → k < 4 → P k
below_four P p0 p1 p2 p3 zero h = p0
below_four P p0 p1 p2 p3 (suc zero) h = p1
below_four P p0 p1 p2 p3 (suc (suc zero)) h = p2
below_four P p0 p1 p2 p3 (suc (suc (suc zero))) h = p3
below_four P p0 p1 p2 p3 (suc (suc (suc (suc n)))) h = absurd (omega arith)

-- eight items, and what a function makes of them in pairs
eight_items : (xs : List ℕ) → length xs ≡ 8
    → xs ≡ get_or xs 0 0 ∷ get_or xs 1 0 ∷ get_or xs 2 0 ∷ get_or xs 3 0 ∷ get_or xs 4 0 ∷ get_or xs 5 0 ∷ get_or xs 6 0 ∷ get_or xs 7 0 ∷ []
eight_items xs size =
    let items = get_or xs 0 0 ∷ get_or xs 1 0 ∷ get_or xs 2 0 ∷ get_or xs 3 0 ∷ get_or xs 4 0 ∷ get_or xs 5 0 ∷ get_or xs 6 0 ∷ get_or xs 7 0 ∷ [] in
    same_number_lists xs items size
    (λ k h. below_eight (λ (k : ℕ). get_or xs k 0 ≡ get_or items k 0) refl refl refl refl refl refl refl refl k (omega arith))

pub eight_pairs : (f : ℕ → ℕ × ℕ) (xs ls rs : List ℕ) → length xs ≡ 8
    → ((j : ℕ) → j < 8 → (get_or ls j 0, get_or rs j 0) ≡ f (get_or xs j 0))
    → (get_or ls 0 0, get_or rs 0 0) ∷ (get_or ls 1 0, get_or rs 1 0) ∷ (get_or ls 2 0, get_or rs 2 0) ∷ (get_or ls 3 0, get_or rs 3 0)
    ∷ (get_or ls 4 0, get_or rs 4 0) ∷ (get_or ls 5 0, get_or rs 5 0) ∷ (get_or ls 6 0, get_or rs 6 0) ∷ (get_or ls 7 0, get_or rs 7 0) ∷ []
    ≡ map f xs
eight_pairs f xs ls rs size each =
    rw (
      each 0 (omega arith),
      each 1 (omega arith),
      each 2 (omega arith),
      each 3 (omega arith),
      each 4 (omega arith),
      each 5 (omega arith),
      each 6 (omega arith),
      each 7 (omega arith),
    ) (sym (ap (map f) (eight_items xs size)))

-- a lane of a vector and a splat
pub length-splat : (f : ℕ → ℕ → ℕ) (xs : List ℕ) (s : ℕ) → length xs ≡ 8 → length (zip2 f xs (replicate 8 s)) ≡ 8
length-splat f xs s size = length-zip2 f xs (replicate 8 s) size ∙ size

pub get_or-splat : (f : ℕ → ℕ → ℕ) (xs : List ℕ) (s j : ℕ) → length xs ≡ 8 → j < 8
    → get_or (zip2 f xs (replicate 8 s)) j 0 ≡ f (get_or xs j 0) s
get_or-splat f xs s j size h =
    get_or-zip2 f xs (replicate 8 s) j 0 0 0 (omega arith) h ∙ ap (f (get_or xs j 0)) (get_or-replicate 8 j s 0 h)

-- two shifts of each lane and an or are a rotation
module _ (turn : ℕ) (low : 0 < turn) (high : turn < 32) (a b : List ℕ) (len_a : length a ≡ 8) (len_b : length b ≡ 8) where
  abbrev sum : List ℕ
  sum = zip2 bit_xor a b

  abbrev up : List ℕ
  up = zip2 (λ x n. x * 2 ^ n % 2 ^ 32) sum (replicate 8 turn)

  abbrev down : List ℕ
  down = zip2 (λ x n. x / 2 ^ n) sum (replicate 8 (32 - turn))

  len_sum : length sum ≡ 8
  len_sum = length-zip2 bit_xor a b (omega arith) ∙ len_a

  pub shifts_rotate : (j : ℕ) → j < 8 → slice_index (zip2 bit_or up down) j ≡ xor_rotate (slice_index a j) (slice_index b j) turn
  shifts_rotate j h =
      let len_up : length up ≡ 8 = length-splat (λ (x n : ℕ). x * 2 ^ n % 2 ^ 32) sum turn len_sum in
      let len_down : length down ≡ 8 = length-splat (λ (x n : ℕ). x / 2 ^ n) sum (32 - turn) len_sum in
      let left : turn % 32 ≡ turn = omega arith in
      let right : (32 - turn) % 32 ≡ 32 - turn = omega arith in
      rw (
        get_or-zip2 bit_or up down j 0 0 0 (omega arith) (omega arith),
        get_or-splat (λ (x n : ℕ). x * 2 ^ n % 2 ^ 32) sum turn j len_sum h,
        get_or-splat (λ (x n : ℕ). x / 2 ^ n) sum (32 - turn) j len_sum h,
        get_or-zip2 bit_xor a b j 0 0 0 (omega arith) (omega arith),
        left,
        right,
      ) refl

-- ---- words of 32 bits and their halves of 64

-- what holds of a lane's number
pub lane_fits : (w : Width) (xs : List ℕ) (j : ℕ) → length xs ≡ 8 → Each1 (Fits w) xs → j < 8 → Fits w (get_or xs j 0)
lane_fits w xs j size fits h = Each1-get_or (Fits w) xs j 0 (omega arith) fits

module _ (xs : List ℕ) (size : length xs ≡ 8) (fits : Each1 (Fits w64) xs) where
  abbrev shifted_up : List ℕ
  shifted_up = zip2 (λ x n. x * 2 ^ n % 2 ^ 64) xs (replicate 8 32)

  abbrev low : List ℕ
  low = zip2 (λ x n. x / 2 ^ n) shifted_up (replicate 8 32)

  abbrev high : List ℕ
  high = zip2 (λ x n. x / 2 ^ n) xs (replicate 8 32)

  len_up : length shifted_up ≡ 8
  len_up = length-splat (λ (x n : ℕ). x * 2 ^ n % 2 ^ 64) xs 32 size

  len_low : length low ≡ 8
  len_low = length-splat (λ (x n : ℕ). x / 2 ^ n) shifted_up 32 len_up

  len_high : length high ≡ 8
  len_high = length-splat (λ (x n : ℕ). x / 2 ^ n) xs 32 size

  pub low_is : (j : ℕ) → j < 8 → get_or low j 0 ≡ get_or xs j 0 % 2 ^ 32
  low_is j h =
      rw (
        get_or-splat (λ (x n : ℕ). x / 2 ^ n) shifted_up 32 j len_up h,
        get_or-splat (λ (x n : ℕ). x * 2 ^ n % 2 ^ 64) xs 32 j size h,
      ) (omega arith)

  pub high_is : (j : ℕ) → j < 8 → get_or high j 0 ≡ get_or xs j 0 / 2 ^ 32
  high_is j h = get_or-splat (λ (x n : ℕ). x / 2 ^ n) xs 32 j size h

  pub low_fits : Each1 (Fits w32) low
  low_fits = Each1-from_get_or (Fits w32) low 0 (λ j h.
      let inside : j < 8 = omega (arith, len_low) in
      record { fits = rw (low_is j inside) (omega arith) })

  pub high_fits : Each1 (Fits w32) high
  high_fits = Each1-from_get_or (Fits w32) high 0 (λ j h.
      let inside : j < 8 = omega (arith, len_high) in
      let bound : get_or xs j 0 < 2 ^ 64 = (lane_fits w64 xs j size fits inside).fits in
      record { fits = rw (high_is j inside) (omega arith) })

  pub low_cast : (j : ℕ) → j < 8 → get_or (map (λ x. x) low) j 0 ≡ get_or xs j 0 % 2 ^ 32
  low_cast j h = get_or-map (λ (x : ℕ). x) low j 0 0 (omega (arith, len_low)) ∙ low_is j h

  pub high_cast : (j : ℕ) → j < 8 → get_or (map (λ x. x) high) j 0 ≡ get_or xs j 0 / 2 ^ 32
  high_cast j h = get_or-map (λ (x : ℕ). x) high j 0 0 (omega (arith, len_high)) ∙ high_is j h

-- two words side by side
module _ (xs ys : List ℕ) (len_x : length xs ≡ 8) (len_y : length ys ≡ 8) (fits_x : Each1 (Fits w32) xs) (fits_y : Each1 (Fits w32) ys) where
  abbrev wide_x : List ℕ
  wide_x = map (λ x. x) xs

  abbrev wide_y : List ℕ
  wide_y = map (λ x. x) ys

  abbrev moved : List ℕ
  moved = zip2 (λ x n. x * 2 ^ n % 2 ^ 64) wide_y (replicate 8 32)

  pub joined_is : (j : ℕ) → j < 8 → get_or (zip2 (λ x y. (x + y) % 2 ^ 64) wide_x moved) j 0 ≡ get_or xs j 0 + 2 ^ 32 * get_or ys j 0
  joined_is j h =
      let size_x : length wide_x ≡ 8 = length-map xs (λ (x : ℕ). x) ∙ len_x in
      let size_y : length wide_y ≡ 8 = length-map ys (λ (x : ℕ). x) ∙ len_y in
      let size : length moved ≡ 8 = length-splat (λ (x n : ℕ). x * 2 ^ n % 2 ^ 64) wide_y 32 size_y in
      let x : get_or xs j 0 < 2 ^ 32 = (lane_fits w32 xs j len_x fits_x h).fits in
      let y : get_or ys j 0 < 2 ^ 32 = (lane_fits w32 ys j len_y fits_y h).fits in
      rw (
        get_or-zip2 (λ (x y : ℕ). (x + y) % 2 ^ 64) wide_x moved j 0 0 0 (omega arith) (omega arith),
        get_or-splat (λ (x n : ℕ). x * 2 ^ n % 2 ^ 64) wide_y 32 j size_y h,
        get_or-map (λ (x : ℕ). x) xs j 0 0 (omega arith),
        get_or-map (λ (x : ℕ). x) ys j 0 0 (omega arith),
      ) (omega arith)

-- ---- blocks

-- the words of a block are those that its first state begins
pub begun_word : (key : List ℕ) (counter nonce k : ℕ) → state_word (initial_state key counter nonce) k ≡ block_word 10 key counter nonce k
unfolding block_word
begun_word key counter nonce k = refl

-- the words of a block are those of the stream
pub word_of_block : (key : List ℕ) (stream block k n : ℕ) → k < 16 → n ≡ 16 * block + k → block_word 10 key block stream k ≡ word_at 10 key stream n
word_of_block key stream block k n h e =
    let row : n / 16 ≡ block = omega arith in
    let column : n % 16 ≡ k = omega arith in
    rw (row, column) refl

-- eight blocks counted from one on
pub counted : (block : ℕ) → block + 8 ≤ 2 ^ 64 → (j : ℕ) → j < 8
    → slice_index (zip2 (λ x y. (x + y) % 2 ^ 64) (replicate 8 block) (0 ∷ 1 ∷ 2 ∷ 3 ∷ 4 ∷ 5 ∷ 6 ∷ 7 ∷ [])) j ≡ block + j
counted block fits =
    below_eight (λ (j : ℕ). slice_index (zip2 (λ x y. (x + y) % 2 ^ 64) (replicate 8 block) (0 ∷ 1 ∷ 2 ∷ 3 ∷ 4 ∷ 5 ∷ 6 ∷ 7 ∷ [])) j ≡ block + j)
    (omega arith) (omega arith) (omega arith) (omega arith) (omega arith) (omega arith) (omega arith) (omega arith)
