-- Eight keys side by side, of which the last four words are zero,
-- and the words of the block that a state begins.
use Rattle.std.specs.Prelude.{ℕ, List, [], ◌∷◌, slice_index}
use Rattle.rand_chacha.specs.Block.{add32, double_rounds}
use Rattle.rand_chacha.specs.Lanes.{lane_at}

-- the key in lane j
abbrev pub key_lane : ℕ → List (List ℕ) → List ℕ
key_lane j keys =
    lane_at keys 0 j ∷ lane_at keys 1 j ∷ lane_at keys 2 j ∷ lane_at keys 3 j
    ∷ 0 ∷ 0 ∷ 0 ∷ 0 ∷ []

-- word k of the block that a state begins
abbrev pub state_word : List ℕ → ℕ → ℕ
state_word x k = add32 (slice_index (double_rounds 10 x) k) (slice_index x k)
