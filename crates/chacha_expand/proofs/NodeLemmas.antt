-- The children of a state by the words of its key and of its block.
use Rattle.std.proofs.Common.{◌≡◌, ℕ, ◌+◌, ◌*◌, ◌/◌, ◌%◌, ◌^◌, ◌<◌, List, [], ◌∷◌, refl, arith}
use Rattle.rand_core.specs.Steps.{u32_at}
use Rattle.rand_chacha.specs.Block.{block_word}
use Rattle.rand_chacha.specs.ChaCha.{key_of}
use Rattle.dpf_rules.specs.Bytes.{value_in, bytes_of}
use Rattle.dpf_rules.specs.Expansion.{stream_byte, stream_bytes, with_bit, node_key, child}

-- four bytes are a word
four_bytes : (x : ℕ) → x % 256 + x / 256 % 256 * 2 ^ 8 + x / 256 / 256 % 256 * 2 ^ 16 + x / 256 / 256 / 256 % 256 * 2 ^ 24 ≡ x % 2 ^ 32
four_bytes x = omega arith

-- ---- the key

module _ (state : ℕ) where
  abbrev even : ℕ
  even = with_bit state 0

  -- the words of a node's key
  abbrev pub words_of_key : List ℕ
  words_of_key = even % 2 ^ 32 ∷ even / 2 ^ 32 % 2 ^ 32 ∷ even / 2 ^ 64 % 2 ^ 32 ∷ even / 2 ^ 96 % 2 ^ 32 ∷ 0 ∷ 0 ∷ 0 ∷ 0 ∷ []

  -- the same words from the halves of 64 bits
  pub low_word : even % 2 ^ 64 % 2 ^ 32 ≡ even / 1 % 2 ^ 32
  low_word = omega arith

  pub second_word : even % 2 ^ 64 / 2 ^ 32 ≡ even / 2 ^ 32 % 2 ^ 32
  second_word = omega arith

  pub third_word : even / 2 ^ 64 % 2 ^ 64 % 2 ^ 32 ≡ even / 2 ^ 64 % 2 ^ 32
  third_word = omega arith

  pub fourth_word : even / 2 ^ 64 % 2 ^ 64 / 2 ^ 32 ≡ even / 2 ^ 96 % 2 ^ 32
  fourth_word = omega arith

  next_word_down : (x : ℕ) → x / 256 / 256 / 256 / 256 ≡ x / 2 ^ 32
  next_word_down x = omega arith

  pub key_of_node : key_of (node_key state) ≡ words_of_key
  unfolding node_key bytes_of u32_at
  key_of_node =
      let two : even / 2 ^ 32 / 2 ^ 32 ≡ even / 2 ^ 64 = omega arith in
      let three : even / 2 ^ 64 / 2 ^ 32 ≡ even / 2 ^ 96 = omega arith in
      rw (
        four_bytes even,
        four_bytes (even / 256 / 256 / 256 / 256),
        four_bytes (even / 256 / 256 / 256 / 256 / 256 / 256 / 256 / 256),
        four_bytes (even / 256 / 256 / 256 / 256 / 256 / 256 / 256 / 256 / 256 / 256 / 256 / 256),
        next_word_down even,
        next_word_down (even / 2 ^ 32),
        two,
        next_word_down (even / 2 ^ 64),
        three,
      ) refl

-- ---- the children

-- the four bytes of a word, as a stream has them
word_bytes_sum : (w rest : ℕ) → w < 2 ^ 32
    → w / 1 % 256 + 256 * (w / 256 % 256 + 256 * (w / 65536 % 256 + 256 * (w / 16777216 % 256 + 256 * rest))) ≡ w + 2 ^ 32 * rest
word_bytes_sum w rest h = omega arith

-- four words by their halves of 64 bits
pub four_words : (a b c d : ℕ) → a + 2 ^ 32 * b + 2 ^ 64 * (c + 2 ^ 32 * d) ≡ value_in (2 ^ 32) (a ∷ b ∷ c ∷ d ∷ [])
unfolding value_in
four_words a b c d = omega arith

module _ (key : List ℕ) where
  abbrev word : ℕ → ℕ
  word k = block_word 10 (key_of key) 0 0 k

  word_lt : (k : ℕ) → word k < 2 ^ 32
  unfolding block_word
  word_lt k = omega arith

  -- sixteen bytes from the start of a block are four words
  pub left_words : value_in 256 (stream_bytes key 0 0 16) ≡ value_in (2 ^ 32) (word 0 ∷ word 1 ∷ word 2 ∷ word 3 ∷ [])
  unfolding value_in stream_bytes stream_byte
  left_words =
      rw (
        word_bytes_sum (word 3) 0 (word_lt 3),
        word_bytes_sum (word 2) (word 3 + 2 ^ 32 * 0) (word_lt 2),
        word_bytes_sum (word 1) (word 2 + 2 ^ 32 * (word 3 + 2 ^ 32 * 0)) (word_lt 1),
        word_bytes_sum (word 0) (word 1 + 2 ^ 32 * (word 2 + 2 ^ 32 * (word 3 + 2 ^ 32 * 0))) (word_lt 0),
      ) refl

  pub right_words : value_in 256 (stream_bytes key 0 16 16) ≡ value_in (2 ^ 32) (word 4 ∷ word 5 ∷ word 6 ∷ word 7 ∷ [])
  unfolding value_in stream_bytes stream_byte
  right_words =
      rw (
        word_bytes_sum (word 7) 0 (word_lt 7),
        word_bytes_sum (word 6) (word 7 + 2 ^ 32 * 0) (word_lt 6),
        word_bytes_sum (word 5) (word 6 + 2 ^ 32 * (word 7 + 2 ^ 32 * 0)) (word_lt 5),
        word_bytes_sum (word 4) (word 5 + 2 ^ 32 * (word 6 + 2 ^ 32 * (word 7 + 2 ^ 32 * 0))) (word_lt 4),
      ) refl

-- word k of a node's block
abbrev pub node_word : ℕ → ℕ → ℕ
node_word state k = block_word 10 (words_of_key state) 0 0 k

pub left_child : (state : ℕ) → child state 0
    ≡ value_in (2 ^ 32) (node_word state 0 ∷ node_word state 1 ∷ node_word state 2 ∷ node_word state 3 ∷ [])
unfolding child
left_child state = rw (left_words (node_key state), key_of_node state) refl

pub right_child : (state : ℕ) → child state 1
    ≡ value_in (2 ^ 32) (node_word state 4 ∷ node_word state 5 ∷ node_word state 6 ∷ node_word state 7 ∷ [])
unfolding child
right_child state = rw (right_words (node_key state), key_of_node state) refl
