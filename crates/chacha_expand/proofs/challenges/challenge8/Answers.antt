use Rattle.std.proofs.Common.{◌≡◌, ℕ, ◌+◌, ◌*◌, ◌/◌, ◌%◌, ◌^◌, ◌<◌, List, refl, sym, ap, ap₂, ◌∙◌, arith, slice_index}
use Rattle.rand_chacha.specs.Block.{block_word}
use Rattle.rand_chacha.specs.ChaCha.{word_at, key_of}
use Rattle.rand_chacha.specs.Lanes.{lane_at}
use Rattle.dpf_rules.specs.Bytes.{value_in}
use Rattle.dpf_rules.specs.Expansion.{stream_bytes, challenge_r, challenge_s}
use Rattle.chacha_expand.specs.KeyLanes.{state_word}
use Rattle.chacha_expand.specs.Challenges.{challenge_at}
use Rattle.chacha_expand.proofs.LaneLemmas.{eight_pairs, begun_word, word_of_block}
use Rattle.chacha_expand.proofs.StreamLemmas.{four_words_value}
use Rattle.chacha_expand.proofs.challenges.challenge8.Goals as goal

pub returns : goal.returns
returns c =
    let addresses = c.args.addresses.now in
    let key = c.args.ckey.now in
    let lows = c.address_halves.result.0 in
    let highs = c.address_halves.result.1 in
    let word : (j : ℕ) → j < 8 → (k : ℕ) → k < 8 → (n : ℕ) → n ≡ 16 * (slice_index addresses j / 2 ^ 64) + k
    → lane_at c.words.result k j ≡ word_at 10 (key_of key) (slice_index addresses j % 2 ^ 64) n =
    λ j h k l n e.
    c.words.ensures j k h (omega arith)
    ∙ ap (λ (x : List ℕ). state_word x k) (c.stream_states-first.ensures j h)
    ∙ begun_word c.words_of.result (slice_index highs j) (slice_index lows j) k
    ∙ ap (λ (x : List ℕ). block_word 10 x (slice_index highs j) (slice_index lows j) k) c.words_of.ensures
    ∙ ap₂ (λ (x y : ℕ). block_word 10 (key_of key) x y k) (c.address_halves.ensures.high j h) (c.address_halves.ensures.low j h)
    ∙ word_of_block (key_of key) (slice_index addresses j % 2 ^ 64) (slice_index addresses j / 2 ^ 64) k n (omega arith) e in
    let value = λ (j n : ℕ). value_in 256 (stream_bytes key (slice_index addresses j % 2 ^ 64) n 16) in
    let r : (j : ℕ) → j < 8 → slice_index c.numbers.result j ≡ challenge_r key (slice_index addresses j) =
    λ j h.
    let p = 16 * (slice_index addresses j / 2 ^ 64) in
    let place : 4 * p ≡ 64 * (slice_index addresses j / 2 ^ 64) = omega arith in
    c.numbers.ensures j h
    ∙ rw (word j h 0 (omega arith) (p + 0) (omega arith), word j h 1 (omega arith) (p + 1) refl, word j h 2 (omega arith) (p + 2) refl, word j h 3 (omega arith) (p + 3) refl)
    (sym (four_words_value key (slice_index addresses j % 2 ^ 64) p))
    ∙ ap (value j) place in
    let s : (j : ℕ) → j < 8 → slice_index c.numbers-2.result j ≡ challenge_s key (slice_index addresses j) =
    λ j h.
    let p = 16 * (slice_index addresses j / 2 ^ 64) + 4 in
    let place : 4 * p ≡ 64 * (slice_index addresses j / 2 ^ 64) + 16 = omega arith in
    c.numbers-2.ensures j h
    ∙ rw (word j h 4 (omega arith) (p + 0) (omega arith), word j h 5 (omega arith) (p + 1) (omega arith), word j h 6 (omega arith) (p + 2) (omega arith), word j h 7 (omega arith) (p + 3) (omega arith))
    (sym (four_words_value key (slice_index addresses j % 2 ^ 64) p))
    ∙ ap (value j) place in
    eight_pairs (challenge_at key) addresses c.numbers.result c.numbers-2.result (omega arith) (λ j h. rw (r j h, s j h) refl)
