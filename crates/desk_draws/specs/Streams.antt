-- What is drawn of a seed, one draw behind the other.
use Rattle.std.specs.Prelude.{ℕ, ◌+◌, ◌*◌, ◌^◌}
use Rattle.rand_core.specs.Steps.{stream_of, steps_u32}
use Rattle.rand_core.specs.Stream.{Stream, next_u64}
use Rattle.rand_chacha.specs.ChaCha.{ChaCha, next_word}

-- all that a generator of twenty rounds will answer
abbrev pub stream_from : ChaCha → Stream
stream_from generator = stream_of (steps_u32 (next_word 10)) generator

-- what is left behind a draw
abbrev pub behind : {A : Type 0} → (Stream → A × Stream) → Stream → Stream
behind draw s = (draw s).1

-- two draws of 64 bits as one number, the first of them as its low half
abbrev pub two_numbers : Stream → ℕ
two_numbers s = (next_u64 (behind next_u64 s)).0 * 2 ^ 64 + (next_u64 s).0
