-- The challenges at eight places of a list of addresses.
use Rattle.std.specs.Prelude.{◌≡◌, ℕ, ◌+◌, ◌<◌, List, length, slice_index, slice_index_or}
use Rattle.chacha_expand.specs.Challenges.{challenge_at}

-- these are the challenges from a place on, as far as there are addresses
abbrev pub HasChallenges : List ℕ → List ℕ → ℕ → List (ℕ × ℕ) → Type 0
HasChallenges ckey addresses from eight =
    (j : ℕ) → j < 8 → from + j < length addresses
    → slice_index_or eight j (0, 0) ≡ challenge_at ckey (slice_index addresses (from + j))
