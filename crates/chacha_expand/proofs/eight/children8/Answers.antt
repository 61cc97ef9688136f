use Rattle.std.proofs.Common.{◌≡◌, ℕ, List, ap, ◌/◌, ◌<◌, refl, ◌∙◌, sym, arith, slice_index}
use Rattle.rand_chacha.specs.Lanes.{lane_at}
use Rattle.dpf_rules.specs.Expansion.{with_bit, child}
use Rattle.dpf_rules.specs.Keys.{raw_pair}
use Rattle.chacha_expand.specs.KeyLanes.{key_lane, state_word}
use Rattle.chacha_expand.proofs.LaneLemmas.{eight_pairs, begun_word}
use Rattle.chacha_expand.proofs.NodeLemmas.{node_word, left_child, right_child}
use Rattle.chacha_expand.proofs.eight.children8.Goals as goal

pub returns : goal.returns
returns c =
    let states = c.args.states.now in
    let word : (j : ℕ) → j < 8 → (k : ℕ) → k < 8 → lane_at c.words.result k j ≡ node_word (slice_index states j) k =
    λ j h k l.
    let state = slice_index states j in
    let key = λ (k : ℕ) (l : k < 4). c.key_words.ensures k j l h in
    let whole : with_bit state 0 / 1 ≡ with_bit state 0 = omega arith in
    c.words.ensures j k h (omega arith)
    ∙ ap (λ (x : List ℕ). state_word x k) (c.first_states.ensures j h)
    ∙ begun_word (key_lane j c.key_words.result) 0 0 k
    ∙ rw (key 0 (omega arith), key 1 (omega arith), key 2 (omega arith), key 3 (omega arith), whole) refl in
    let left : (j : ℕ) → j < 8 → slice_index c.numbers.result j ≡ child (slice_index states j) 0 =
    λ j h. c.numbers.ensures j h
    ∙ rw (word j h 0 (omega arith), word j h 1 (omega arith), word j h 2 (omega arith), word j h 3 (omega arith))
    (sym (left_child (slice_index states j))) in
    let right : (j : ℕ) → j < 8 → slice_index c.numbers-2.result j ≡ child (slice_index states j) 1 =
    λ j h. c.numbers-2.ensures j h
    ∙ rw (word j h 4 (omega arith), word j h 5 (omega arith), word j h 6 (omega arith), word j h 7 (omega arith))
    (sym (right_child (slice_index states j))) in
    eight_pairs raw_pair states c.numbers.result c.numbers-2.result (omega arith) (λ j h. rw (left j h, right j h) refl)
