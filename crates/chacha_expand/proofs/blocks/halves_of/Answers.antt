use Rattle.std.proofs.Common.{◌≡◌, ℕ, ◌+◌, ◌*◌, ◌%◌, ◌^◌, ◌<◌, List, [], ◌∷◌, ap, ap₂, ◌∙◌, arith, slice_index, replicate}
use Rattle.std.specs.Simd.Lanes.{zip2}
use Rattle.std.proofs.lemmas.Simd.{get_or-replicate}
use Rattle.rand_chacha.specs.Block.{block_word}
use Rattle.rand_chacha.specs.ChaCha.{word_at, key_of}
use Rattle.rand_chacha.specs.Lanes.{lane_at}
use Rattle.chacha_expand.specs.KeyLanes.{state_word}
use Rattle.chacha_expand.proofs.LaneLemmas.{below_eight, begun_word, word_of_block, counted}
use Rattle.chacha_expand.proofs.blocks.halves_of.Goals as goal

pub returns : goal.returns
returns c j h =
    let key = key_of c.args.key.now in
    let stream = c.args.stream in
    let base = 16 * (c.args.block + j) in
    let blocks = slice_index (zip2 (λ x y. (x + y) % 2 ^ 64) (replicate 8 c.args.block) (0 ∷ 1 ∷ 2 ∷ 3 ∷ 4 ∷ 5 ∷ 6 ∷ 7 ∷ [])) j in
    let streams = slice_index (replicate 8 stream) j in
    let word : (k : ℕ) → k < 16 → (n : ℕ) → n ≡ base + k → lane_at c.words.result k j ≡ word_at 10 key stream n =
    λ k l n e.
    c.words.ensures j k h l
    ∙ ap (λ (x : List ℕ). state_word x k) (c.stream_states-first.ensures j h)
    ∙ begun_word c.words_of.result blocks streams k
    ∙ ap (λ (x : List ℕ). block_word 10 x blocks streams k) c.words_of.ensures
    ∙ ap₂ (λ (x y : ℕ). block_word 10 key x y k) (counted c.args.block (omega arith) j h) (get_or-replicate 8 j stream 0 h)
    ∙ word_of_block key stream (c.args.block + j) k n l e in
    let pair = λ (k : ℕ) (l : k < 15) (m n : ℕ) (e : m ≡ base + k) (f : n ≡ base + (k + 1)).
    ap₂ (λ (x y : ℕ). x + 2 ^ 32 * y) (word k (omega arith) m e) (word (k + 1) (omega arith) n f) in
    let rows =
    c.joined.result ∷ c.joined-2.result ∷ c.joined-3.result ∷ c.joined-4.result
    ∷ c.joined-5.result ∷ c.joined-6.result ∷ c.joined-7.result ∷ c.joined-8.result ∷ [] in
    below_eight (λ (k : ℕ). lane_at rows k j ≡ word_at 10 key stream (base + 2 * k) + 2 ^ 32 * word_at 10 key stream (base + 2 * k + 1))
    (c.joined.ensures j h ∙ pair 0 (omega arith) (base + 2 * 0) (base + 2 * 0 + 1) (omega arith) (omega arith))
    (c.joined-2.ensures j h ∙ pair 2 (omega arith) (base + 2 * 1) (base + 2 * 1 + 1) (omega arith) (omega arith))
    (c.joined-3.ensures j h ∙ pair 4 (omega arith) (base + 2 * 2) (base + 2 * 2 + 1) (omega arith) (omega arith))
    (c.joined-4.ensures j h ∙ pair 6 (omega arith) (base + 2 * 3) (base + 2 * 3 + 1) (omega arith) (omega arith))
    (c.joined-5.ensures j h ∙ pair 8 (omega arith) (base + 2 * 4) (base + 2 * 4 + 1) (omega arith) (omega arith))
    (c.joined-6.ensures j h ∙ pair 10 (omega arith) (base + 2 * 5) (base + 2 * 5 + 1) (omega arith) (omega arith))
    (c.joined-7.ensures j h ∙ pair 12 (omega arith) (base + 2 * 6) (base + 2 * 6 + 1) (omega arith) (omega arith))
    (c.joined-8.ensures j h ∙ pair 14 (omega arith) (base + 2 * 7) (base + 2 * 7 + 1) (omega arith) (omega arith))
