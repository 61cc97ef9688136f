-- The bytes of the public part, by the viewer's path.
use Rattle.std.proofs.Common.{◌≡◌, ℕ, ◌+◌, ◌<◌, List, ◌++◌, length, refl, sym, ap, ◌∙◌, arith, add-one}
use Rattle.express_words.specs.Bytes.{xor_bytes}
use Rattle.dpf_rules.specs.Bytes.{bytes_of, words_bytes, bits_number}
use Rattle.dpf_rules.specs.Expansion.{block}
use Rattle.dpf_rules.specs.Walk.{step, side_at}
use Rattle.dpf_rules.specs.Keys.{Expansions, pair_at, level_word, level_right, keys, raw_pair, honest}
use Rattle.dpf_rules.specs.Ideal.{own_at, ideal_keys}
use Rattle.dpf_rules.proofs.KeysLemmas.{honest-pair, words_same, bits_same}
use Rattle.dpf_rules.proofs.IdealLemmas.{own_first}
use Rattle.write_hiding.specs.Levels.{own_word, own_right}

pub own_right_lt : (target viewer root : ℕ) (other : Expansions) (i : ℕ) → own_right target viewer root other i < 2
unfolding own_right level_right
own_right_lt target viewer root other i = omega arith

-- one level of the path: what the code computes from its state
module _ (target viewer root : ℕ) (other : Expansions) (i s : ℕ) (p q : ℕ × ℕ) (side word right : ℕ)
    (at : s ≡ own_at target viewer root other i) (own_is : p ≡ raw_pair s) (other_is : q ≡ pair_at other i)
    (side_is : side ≡ side_at target i) (word_is : word ≡ level_word p q side) (right_is : right ≡ level_right p q side) where
  pub word_on_path : word ≡ own_word target viewer root other i
  unfolding own_word
  word_on_path = rw (word_is, own_is, other_is, at, side_is) refl

  pub right_on_path : right ≡ own_right target viewer root other i
  unfolding own_right
  right_on_path = rw (right_is, own_is, other_is, at, side_is) refl

  pub next_on_path : step word right side s ≡ own_at target viewer root other (i + 1)
  unfolding own_at
  next_on_path = rw (add-one i, word_is, right_is, own_is, other_is, at, side_is) refl

module _ (target : ℕ) (message : List ℕ) (viewer root : ℕ) (other : Expansions) where
  abbrev own : ℕ → ℕ
  own = own_at target viewer root other

  abbrev list : Expansions
  list = honest own (length message)

  abbrev last : List ℕ
  last = xor_bytes (xor_bytes (block (length message) (own 128)) other.block) message

  made : words_bytes (own_word target viewer root other) 128 ++ bytes_of 16 (bits_number (own_right target viewer root other) 128) ++ last ≡ keys target message list other
  unfolding keys honest own_word own_right
  made =
      let pairs = λ (i : ℕ) (h : i < 128). honest-pair own (length message) i h in
      ap (λ xs. xs ++ bytes_of 16 (bits_number (own_right target viewer root other) 128) ++ last)
      (words_same (own_word target viewer root other) (λ i. level_word (pair_at list i) (pair_at other i) (side_at target i)) 128 (λ i h. rw (pairs i h) refl))
      ∙ ap (λ n. words_bytes (λ i. level_word (pair_at list i) (pair_at other i) (side_at target i)) 128 ++ bytes_of 16 n ++ last)
      (bits_same (own_right target viewer root other) (λ i. level_right (pair_at list i) (pair_at other i) (side_at target i)) 128 (λ i h. rw (pairs i h) refl))

  -- the public part, whichever server the viewer is
  pub ideal_keys-is : words_bytes (own_word target viewer root other) 128 ++ bytes_of 16 (bits_number (own_right target viewer root other) 128) ++ last
      ≡ ideal_keys target message viewer root other
  ideal_keys-is = made ∙ sym (own_first target message viewer root other)
