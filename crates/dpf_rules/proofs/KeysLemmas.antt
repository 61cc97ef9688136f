-- What is read from the bytes of a public part is what was put there.
use Rattle.std.proofs.Common.{◌≡◌, ℕ, zero, suc, ◌+◌, ◌-◌, ◌*◌, ◌%◌, ◌^◌, ◌<◌, ◌≤◌, inl, inr, List, ◌++◌, map, length, take, drop, refl, ap, ◌∙◌, arith, add-zero, Bool, true, false, cond, eqb}
use Rattle.std.specs.Int.{bit_at}
use Rattle.std.specs.List.{range_with_len}
use Rattle.std.proofs.lemmas.List.{get_or_past, append_assoc, take_at, drop_at, length-append}
use Rattle.std.proofs.lemmas.List.FromFn.{length-map-range_with_len, get_or-map-range_with_len}
use Rattle.std.proofs.lemmas.Nat.{xor_lt}
use Rattle.std.proofs.lemmas.Nat.Bits.{bit_at_cat_low, bit_at_cat_high}
use Rattle.std.proofs.lemmas.Bool.{cases_eq, cases_lt}
use Rattle.std.proofs.Math.Nat.{pow-suc, add_comm, mul-le-mul_right}
use Rattle.express_words.specs.Bytes.{xor_bytes}
use Rattle.dpf_rules.specs.Bytes.{value_in, number_of, bytes_of, words_bytes, bits_number}
use Rattle.dpf_rules.specs.Expansion.{stream_byte, stream_bytes, child, block, node_key}
use Rattle.dpf_rules.specs.Walk.{word_of, right_of, last_of, side_at}
use Rattle.dpf_rules.specs.Keys.{Expansions, pair_at, on_side, level_word, level_right, keys, raw_pair, path_at, path_word, path_right, honest, honest_keys}
use Rattle.dpf_rules.specs.Ideal.{HasStates}
use Rattle.dpf_rules.proofs.ByteLemmas.{length-bytes_of, value_in-bytes_of}
use Rattle.dpf_rules.proofs.PointLemmas.{FollowsPath}

-- ---- words of 16 bytes

pub length-words_bytes : (f : ℕ → ℕ) (n : ℕ) → length (words_bytes f n) ≡ 16 * n
unfolding words_bytes
length-words_bytes f zero = refl
length-words_bytes f (suc n) =
    length-append (words_bytes f n) (bytes_of 16 (f n)) ∙ omega (arith, length-words_bytes f n, length-bytes_of 16 (f n))

-- the bytes of one word
pub word_bytes_at : (f : ℕ → ℕ) (n i : ℕ) (rest : List ℕ) → i < n → take 16 (drop (16 * i) (words_bytes f n ++ rest)) ≡ bytes_of 16 (f i)
unfolding words_bytes
word_bytes_at f zero i rest h = absurd (omega arith)
word_bytes_at f (suc n) i rest h =
    rw (append_assoc (words_bytes f n) (bytes_of 16 (f n)) rest) (elim (cases_eq i n) [
      | inl e ↦ rw (e, drop_at (words_bytes f n) (bytes_of 16 (f n) ++ rest) (16 * n) (length-words_bytes f n))
          (take_at (bytes_of 16 (f n)) rest 16 (length-bytes_of 16 (f n)))
      | inr other ↦ word_bytes_at f n i (bytes_of 16 (f n) ++ rest) (omega arith)
    ])

-- ---- bits

pub bits_number_lt : (f : ℕ → ℕ) (n : ℕ) → ((i : ℕ) → f i < 2) → bits_number f n < 2 ^ n
unfolding bits_number
bits_number_lt f zero small = omega arith
bits_number_lt f (suc n) small =
    let one : f n * 2 ^ n ≤ 1 * 2 ^ n = mul-le-mul_right (2 ^ n) (let s = small n in omega arith) in
    rw (pow-suc 2 n) (omega (arith, bits_number_lt f n small, one))

pub bit_of-bits_number : (f : ℕ → ℕ) (n i : ℕ) → ((i : ℕ) → f i < 2) → i < n → bit_at (bits_number f n) i ≡ f i
unfolding bits_number
bit_of-bits_number f zero i small h = absurd (omega arith)
bit_of-bits_number f (suc n) i small h =
    rw (add_comm (bits_number f n) (f n * 2 ^ n)) (elim (cases_lt i n) [
      | inl l ↦ bit_at_cat_low (f n) n (bits_number f n) i l ∙ bit_of-bits_number f n i small l
      | inr l ↦
          let e : i ≡ n = omega arith in
          let none : i - n ≡ 0 = omega arith in
          bit_at_cat_high (f n) n (bits_number f n) i (bits_number_lt f n small) l ∙ rw (none, e) (omega (arith, small n))
    ])

-- ---- bounds

pub stream_number_lt : (key : List ℕ) (stream a n : ℕ) → value_in 256 (map (stream_byte key stream) (range_with_len a n)) < 256 ^ n
unfolding value_in stream_byte
stream_number_lt key stream a zero = omega arith
stream_number_lt key stream a (suc n) = rw (pow-suc 256 n) (omega (arith, stream_number_lt key stream (a + 1) n))

pub child_lt : (state side : ℕ) → child state side < 2 ^ 128
unfolding child stream_bytes
child_lt state side = stream_number_lt (node_key state) 0 (16 * side) 16

pub cond_lt : (b : Bool) (x y k : ℕ) → x < k → y < k → cond b x y < k
cond_lt true x y k h l = h
cond_lt false x y k h l = l

pub path_word_lt : (target root0 root1 i : ℕ) → path_word target root0 root1 i < 2 ^ 128
unfolding path_word level_word
path_word_lt target root0 root1 i =
    let s0 = (path_at target root0 root1 i).0 in
    let s1 = (path_at target root0 root1 i).1 in
    let lose = 1 - side_at target i in
    let a = cond_lt (eqb lose 0) (child s0 0) (child s0 1) (2 ^ 128) (child_lt s0 0) (child_lt s0 1) in
    let b = cond_lt (eqb lose 0) (child s1 0) (child s1 1) (2 ^ 128) (child_lt s1 0) (child_lt s1 1) in
    omega (arith, xor_lt 128 (on_side (raw_pair s0) lose) (on_side (raw_pair s1) lose) a b)

pub path_right_lt : (target root0 root1 i : ℕ) → path_right target root0 root1 i < 2
unfolding path_right level_right
path_right_lt target root0 root1 i = omega arith

-- ---- two functions that agree

pub words_same : (f g : ℕ → ℕ) (n : ℕ) → ((i : ℕ) → i < n → f i ≡ g i) → words_bytes f n ≡ words_bytes g n
unfolding words_bytes
words_same f g zero same = refl
words_same f g (suc n) same = rw (words_same f g n (λ i h. same i (omega arith)), same n (omega arith)) refl

pub bits_same : (f g : ℕ → ℕ) (n : ℕ) → ((i : ℕ) → i < n → f i ≡ g i) → bits_number f n ≡ bits_number g n
unfolding bits_number
bits_same f g zero same = refl
bits_same f g (suc n) same = rw (bits_same f g n (λ i h. same i (omega arith)), same n (omega arith)) refl

map_same : {A : Type 0} (f g : ℕ → A) (a n : ℕ) → ((i : ℕ) → i < n → f (a + i) ≡ g (a + i))
    → map f (range_with_len a n) ≡ map g (range_with_len a n)
map_same f g a zero same = refl
map_same f g a (suc n) same =
    let here : f a ≡ g a = rw add-zero at (same 0 (omega arith)) in
    rw (here, map_same f g (a + 1) n (λ i h. let next : a + 1 + i ≡ a + suc i = omega arith in rw next (same (suc i) (omega arith)))) refl

-- ---- a part of words, right bits and a last correction

module _ (f g : ℕ → ℕ) (last : List ℕ) (f_lt : (i : ℕ) → f i < 2 ^ 128) (g_lt : (i : ℕ) → g i < 2) where
  abbrev words : List ℕ
  words = words_bytes f 128

  abbrev rights : ℕ
  rights = bits_number g 128

  part_is : words ++ bytes_of 16 rights ++ last ≡ words ++ (bytes_of 16 rights ++ last)
  part_is = append_assoc words (bytes_of 16 rights) last

  pub word_of-part : (i : ℕ) → i < 128 → word_of (words ++ bytes_of 16 rights ++ last) i ≡ f i
  unfolding word_of
  word_of-part i h =
      let width : 16 * i + 16 - 16 * i ≡ 16 = omega arith in
      rw (width, part_is)
      (ap number_of (word_bytes_at f 128 i (bytes_of 16 rights ++ last) h) ∙ value_in-bytes_of 16 (f i) ∙ omega (arith, f_lt i))

  pub right_of-part : (i : ℕ) → i < 128 → right_of (words ++ bytes_of 16 rights ++ last) i ≡ g i
  unfolding right_of
  right_of-part i h =
      let whole : rights % 256 ^ 16 ≡ rights = omega (arith, bits_number_lt g 128 g_lt) in
      rw (
        part_is,
        drop_at words (bytes_of 16 rights ++ last) 2048 (length-words_bytes f 128),
        take_at (bytes_of 16 rights) last 16 (length-bytes_of 16 rights),
        value_in-bytes_of 16 rights,
        whole,
      )
      (bit_of-bits_number g 128 i g_lt h)

  pub last_of-part : last_of (words ++ bytes_of 16 rights ++ last) ≡ last
  unfolding last_of
  last_of-part = drop_at (words ++ bytes_of 16 rights) last 2064
      (length-append words (bytes_of 16 rights) ∙ omega (arith, length-words_bytes f 128, length-bytes_of 16 rights))

-- ---- honest expansions

pub honest-pair : (states : ℕ → ℕ) (width i : ℕ) → i < 128 → pair_at (honest states width) i ≡ raw_pair (states i)
unfolding honest
honest-pair states width i h = get_or-map-range_with_len (λ i. raw_pair (states i)) 0 128 i i (0, 0) h (omega arith)

honest_past : (states : ℕ → ℕ) (width i : ℕ) → 128 ≤ i → pair_at (honest states width) i ≡ (0, 0)
unfolding honest
honest_past states width i h =
    get_or_past (map (λ i. raw_pair (states i)) (range_with_len 0 128)) i (0, 0)
    (omega (arith, length-map-range_with_len (λ i. raw_pair (states i)) 0 128))

pub honest_same : (s t : ℕ → ℕ) (width : ℕ) → ((i : ℕ) → i ≤ 128 → s i ≡ t i) → honest s width ≡ honest t width
unfolding honest
honest_same s t width same =
    rw (
      map_same (λ i. raw_pair (s i)) (λ i. raw_pair (t i)) 0 128
          (λ i h. let place : 0 + i ≡ i = omega arith in rw (place, same i (omega arith)) refl),
      same 128 (omega arith),
    ) refl

module _ (target : ℕ) (message : List ℕ) (root0 root1 : ℕ) where
  abbrev part : List ℕ
  part = honest_keys target message root0 root1

  abbrev path_words : List ℕ
  path_words = words_bytes (path_word target root0 root1) 128

  abbrev path_rights : ℕ
  path_rights = bits_number (path_right target root0 root1) 128

  abbrev last_made : List ℕ
  last_made = xor_bytes (xor_bytes (block (length message) (path_at target root0 root1 128).0) (block (length message) (path_at target root0 root1 128).1)) message

  -- the bytes of honest keys by the path
  pub honest_keys-is : path_words ++ bytes_of 16 path_rights ++ last_made ≡ part
  unfolding honest_keys keys honest path_word path_right
  honest_keys-is =
      let path = path_at target root0 root1 in
      let e0 = honest (λ i. (path i).0) (length message) in
      let e1 = honest (λ i. (path i).1) (length message) in
      let pairs0 = λ (i : ℕ) (h : i < 128). honest-pair (λ i. (path i).0) (length message) i h in
      let pairs1 = λ (i : ℕ) (h : i < 128). honest-pair (λ i. (path i).1) (length message) i h in
      ap (λ xs. xs ++ bytes_of 16 path_rights ++ last_made)
      (words_same (path_word target root0 root1) (λ i. level_word (pair_at e0 i) (pair_at e1 i) (side_at target i)) 128 (λ i h. rw (pairs0 i h, pairs1 i h) refl))
      ∙ ap (λ n. words_bytes (λ i. level_word (pair_at e0 i) (pair_at e1 i) (side_at target i)) 128 ++ bytes_of 16 n ++ last_made)
      (bits_same (path_right target root0 root1) (λ i. level_right (pair_at e0 i) (pair_at e1 i) (side_at target i)) 128 (λ i h. rw (pairs0 i h, pairs1 i h) refl))

  pub follows : FollowsPath part target root0 root1
  unfolding path_word path_right
  follows =
      let f = path_word target root0 root1 in
      let g = path_right target root0 root1 in
      record {
        words = λ i h. rw (← honest_keys-is) (word_of-part f g last_made (path_word_lt target root0 root1) (path_right_lt target root0 root1) i h);
        rights = λ i h. rw (← honest_keys-is) (right_of-part f g last_made (path_word_lt target root0 root1) (path_right_lt target root0 root1) i h);
      }

  pub last_is : last_of part ≡ last_made
  last_is = rw (← honest_keys-is) (last_of-part (path_word target root0 root1) (path_right target root0 root1) last_made (path_word_lt target root0 root1) (path_right_lt target root0 root1))

-- ---- any two expansions, of one server or both not honest: the words are read as they were made

pub HasStates-honest : (states : ℕ → ℕ) (width : ℕ) → HasStates (honest states width)
HasStates-honest states width i = elim (cases_lt i 128) [
  | inl h ↦ rw (honest-pair states width i h) (child_lt (states i) 0, child_lt (states i) 1)
  | inr h ↦ rw (honest_past states width i h) (omega arith, omega arith)
]

pub level_word_lt : (p q : ℕ × ℕ) (side : ℕ) → p.0 < 2 ^ 128 → p.1 < 2 ^ 128 → q.0 < 2 ^ 128 → q.1 < 2 ^ 128 → level_word p q side < 2 ^ 128
unfolding level_word
level_word_lt p q side p0 p1 q0 q1 =
    let lose = 1 - side in
    let a = cond_lt (eqb lose 0) p.0 p.1 (2 ^ 128) p0 p1 in
    let b = cond_lt (eqb lose 0) q.0 q.1 (2 ^ 128) q0 q1 in
    omega (arith, xor_lt 128 (on_side p lose) (on_side q lose) a b)

pub level_right_lt : (p q : ℕ × ℕ) (side : ℕ) → level_right p q side < 2
unfolding level_right
level_right_lt p q side = omega arith

module _ (target : ℕ) (message : List ℕ) (e0 e1 : Expansions) (b0 : HasStates e0) (b1 : HasStates e1) where
  abbrev made_word : ℕ → ℕ
  made_word i = level_word (pair_at e0 i) (pair_at e1 i) (side_at target i)

  abbrev made_right : ℕ → ℕ
  made_right i = level_right (pair_at e0 i) (pair_at e1 i) (side_at target i)

  made_word_lt : (i : ℕ) → made_word i < 2 ^ 128
  made_word_lt i = level_word_lt (pair_at e0 i) (pair_at e1 i) (side_at target i) (b0 i).0 (b0 i).1 (b1 i).0 (b1 i).1

  made_right_lt : (i : ℕ) → made_right i < 2
  made_right_lt i = level_right_lt (pair_at e0 i) (pair_at e1 i) (side_at target i)

  pub word_of-keys : (i : ℕ) → i < 128 → word_of (keys target message e0 e1) i ≡ made_word i
  unfolding keys
  word_of-keys i h = word_of-part made_word made_right (xor_bytes (xor_bytes e0.block e1.block) message) made_word_lt made_right_lt i h

  pub right_of-keys : (i : ℕ) → i < 128 → right_of (keys target message e0 e1) i ≡ made_right i
  unfolding keys
  right_of-keys i h = right_of-part made_word made_right (xor_bytes (xor_bytes e0.block e1.block) message) made_word_lt made_right_lt i h

  pub last_of-keys : last_of (keys target message e0 e1) ≡ xor_bytes (xor_bytes e0.block e1.block) message
  unfolding keys
  last_of-keys = last_of-part made_word made_right (xor_bytes (xor_bytes e0.block e1.block) message) made_word_lt made_right_lt

-- ---- write bytes

pub length-block : (n state : ℕ) → length (block n state) ≡ n
unfolding block stream_bytes
length-block n state = length-map-range_with_len (stream_byte (node_key state) 1) 0 n
