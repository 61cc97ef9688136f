-- The words of blocks by halves of 64 bits, with one lane a block.
use Rattle.std.specs.Prelude.{◌≡◌, ℕ, ◌+◌, ◌*◌, ◌^◌, ◌<◌, List}
use Rattle.rand_chacha.specs.ChaCha.{word_at, key_of}
use Rattle.rand_chacha.specs.Lanes.{lane_at}

-- lane j of the halves has sixteen words of a key's stream, from word p on
abbrev pub HasHalves : List (List ℕ) → ℕ → List ℕ → ℕ → ℕ → Type 0
HasHalves halves j key stream p =
    (k : ℕ) → k < 8
    → lane_at halves k j
    ≡ word_at 10 (key_of key) stream (p + 2 * k) + 2 ^ 32 * word_at 10 (key_of key) stream (p + 2 * k + 1)
