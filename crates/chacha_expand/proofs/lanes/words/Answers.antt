use Rattle.std.proofs.Common.{◌≡◌, ℕ, List, [], ◌∷◌, refl, ap, ◌∙◌, arith, add-one, slice_index}
use Rattle.rand_chacha.specs.Block.{add32, column_round, diagonal_round, double_rounds}
use Rattle.rand_chacha.specs.Lanes.{lane, lane_at}
use Rattle.chacha_expand.specs.KeyLanes.{state_word}
use Rattle.chacha_expand.proofs.LaneLemmas.{below_eight, below_sixteen, eight_more}
use Rattle.chacha_expand.proofs.lanes.words.Goals as goal

pub rounds-init : goal.rounds-init
unfolding double_rounds
rounds-init c j h = refl

pub rounds-preserved : goal.rounds-preserved
unfolding double_rounds
rounds-preserved c j h =
    rw add-one (c.double_round-state.ensures j h ∙ ap (λ (x : List ℕ). diagonal_round (column_round x)) (c.rounds.invariant j h))

pub returns : goal.returns
returns c j k h =
    let x = lane j c.args.first in
    let full : c.rounds._round ≡ 10 = omega arith in
    let last : lane j c.rounds.state ≡ double_rounds 10 x = c.rounds.invariant j h ∙ ap (λ (n : ℕ). double_rounds n x) full in
    let word = λ (k : ℕ). ap (λ (s : List ℕ). add32 (slice_index s k) (slice_index x k)) last in
    let words =
    c.add.result ∷ c.add-2.result ∷ c.add-3.result ∷ c.add-4.result ∷ c.add-5.result ∷ c.add-6.result ∷ c.add-7.result ∷ c.add-8.result
    ∷ c.add-9.result ∷ c.add-10.result ∷ c.add-11.result ∷ c.add-12.result ∷ c.add-13.result ∷ c.add-14.result ∷ c.add-15.result ∷ c.add-16.result ∷ [] in
    below_sixteen (λ (k : ℕ). lane_at words k j ≡ state_word x k)
    (below_eight (λ (k : ℕ). lane_at words k j ≡ state_word x k)
    (c.add.ensures j h ∙ word 0)
    (c.add-2.ensures j h ∙ word 1)
    (c.add-3.ensures j h ∙ word 2)
    (c.add-4.ensures j h ∙ word 3)
    (c.add-5.ensures j h ∙ word 4)
    (c.add-6.ensures j h ∙ word 5)
    (c.add-7.ensures j h ∙ word 6)
    (c.add-8.ensures j h ∙ word 7))
    (below_eight (λ (k : ℕ). lane_at words (eight_more k) j ≡ state_word x (eight_more k))
    (c.add-9.ensures j h ∙ word 8)
    (c.add-10.ensures j h ∙ word 9)
    (c.add-11.ensures j h ∙ word 10)
    (c.add-12.ensures j h ∙ word 11)
    (c.add-13.ensures j h ∙ word 12)
    (c.add-14.ensures j h ∙ word 13)
    (c.add-15.ensures j h ∙ word 14)
    (c.add-16.ensures j h ∙ word 15))
    k
