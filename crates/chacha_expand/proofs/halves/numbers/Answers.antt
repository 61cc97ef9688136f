use Rattle.std.proofs.Common.{◌≡◌, ℕ, ◌+◌, ◌*◌, ◌^◌, ◌<◌, [], ◌∷◌, ◌∙◌, arith, slice_index}
use Rattle.rand_chacha.specs.Lanes.{lane_at}
use Rattle.dpf_rules.specs.Bytes.{value_in}
use Rattle.chacha_expand.proofs.LaneLemmas.{below_eight}
use Rattle.chacha_expand.proofs.NodeLemmas.{four_words}
use Rattle.chacha_expand.proofs.halves.numbers.Goals as goal

pub returns : goal.returns
returns c j h =
    let word = λ (k j : ℕ). lane_at c.args.words k j in
    let number = λ (j : ℕ). value_in (2 ^ 32) (word 0 j ∷ word 1 j ∷ word 2 j ∷ word 3 j ∷ []) in
    let halves : (j : ℕ) → j < 8 → slice_index c.joined.result j + 2 ^ 64 * slice_index c.joined-2.result j ≡ number j =
    λ j h. rw (c.joined.ensures j h, c.joined-2.ensures j h) (four_words (word 0 j) (word 1 j) (word 2 j) (word 3 j)) in
    let results =
    c.number.result ∷ c.number-2.result ∷ c.number-3.result ∷ c.number-4.result
    ∷ c.number-5.result ∷ c.number-6.result ∷ c.number-7.result ∷ c.number-8.result ∷ [] in
    below_eight (λ (j : ℕ). slice_index results j ≡ number j)
    (c.number.ensures ∙ halves 0 (omega arith))
    (c.number-2.ensures ∙ halves 1 (omega arith))
    (c.number-3.ensures ∙ halves 2 (omega arith))
    (c.number-4.ensures ∙ halves 3 (omega arith))
    (c.number-5.ensures ∙ halves 4 (omega arith))
    (c.number-6.ensures ∙ halves 5 (omega arith))
    (c.number-7.ensures ∙ halves 6 (omega arith))
    (c.number-8.ensures ∙ halves 7 (omega arith))
    j h
