use Rattle.std.proofs.Common.{◌≡◌, ℕ, ◌*◌, ◌/◌, ◌%◌, ◌^◌, [], ◌∷◌, ◌∙◌, ap, slice_index}
use Rattle.rand_chacha.specs.Lanes.{lane_at}
use Rattle.dpf_rules.specs.Expansion.{with_bit}
use Rattle.chacha_expand.proofs.LaneLemmas.{below_four, below_eight}
use Rattle.chacha_expand.proofs.NodeLemmas.{low_word, second_word, third_word, fourth_word}
use Rattle.chacha_expand.proofs.eight.key_words.Goals as goal

pub returns : goal.returns
returns c k j kh h =
    let state = slice_index c.args.states.now in
    let lows =
    c.low_half.result ∷ c.low_half-2.result ∷ c.low_half-3.result ∷ c.low_half-4.result
    ∷ c.low_half-5.result ∷ c.low_half-6.result ∷ c.low_half-7.result ∷ c.low_half-8.result ∷ [] in
    let highs =
    c.high_half.result ∷ c.high_half-2.result ∷ c.high_half-3.result ∷ c.high_half-4.result
    ∷ c.high_half-5.result ∷ c.high_half-6.result ∷ c.high_half-7.result ∷ c.high_half-8.result ∷ [] in
    let low : slice_index lows j ≡ with_bit (state j) 0 % 2 ^ 64 =
    below_eight (λ (j : ℕ). slice_index lows j ≡ with_bit (state j) 0 % 2 ^ 64)
    c.low_half.ensures c.low_half-2.ensures c.low_half-3.ensures c.low_half-4.ensures
    c.low_half-5.ensures c.low_half-6.ensures c.low_half-7.ensures c.low_half-8.ensures j h in
    let high : slice_index highs j ≡ with_bit (state j) 0 / 2 ^ 64 % 2 ^ 64 =
    below_eight (λ (j : ℕ). slice_index highs j ≡ with_bit (state j) 0 / 2 ^ 64 % 2 ^ 64)
    c.high_half.ensures c.high_half-2.ensures c.high_half-3.ensures c.high_half-4.ensures
    c.high_half-5.ensures c.high_half-6.ensures c.high_half-7.ensures c.high_half-8.ensures j h in
    let words = c.low_words.result ∷ c.high_words.result ∷ c.low_words-2.result ∷ c.high_words-2.result ∷ [] in
    below_four (λ (k : ℕ). lane_at words k j ≡ with_bit (state j) 0 / 2 ^ (32 * k) % 2 ^ 32)
    (c.low_words.ensures j h ∙ ap (λ (x : ℕ). x % 2 ^ 32) low ∙ low_word (state j))
    (c.high_words.ensures j h ∙ ap (λ (x : ℕ). x / 2 ^ 32) low ∙ second_word (state j))
    (c.low_words-2.ensures j h ∙ ap (λ (x : ℕ). x % 2 ^ 32) high ∙ third_word (state j))
    (c.high_words-2.ensures j h ∙ ap (λ (x : ℕ). x / 2 ^ 32) high ∙ fourth_word (state j))
    k kh
