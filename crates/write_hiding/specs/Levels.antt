-- The word and the right bit of a level of the keys of the viewer's honest and the other server's chosen
-- expansions.
use Rattle.std.specs.Prelude.{ℕ, List, ◌++◌}
use Rattle.dpf_rules.specs.Bytes.{bytes_of, words_bytes, bits_number}
use Rattle.dpf_rules.specs.Walk.{side_at}
use Rattle.dpf_rules.specs.Keys.{Expansions, pair_at, level_word, level_right, raw_pair}
use Rattle.dpf_rules.specs.Ideal.{own_at}

unfoldable pub own_word : ℕ → ℕ → ℕ → Expansions → ℕ → ℕ
own_word target viewer root other i =
    level_word (raw_pair (own_at target viewer root other i)) (pair_at other i) (side_at target i)

unfoldable pub own_right : ℕ → ℕ → ℕ → Expansions → ℕ → ℕ
own_right target viewer root other i =
    level_right (raw_pair (own_at target viewer root other i)) (pair_at other i) (side_at target i)

-- the words and the right bits of all levels, as a public part begins with them
abbrev pub levels_bytes : ℕ → ℕ → ℕ → Expansions → List ℕ
levels_bytes target viewer root other =
    words_bytes (own_word target viewer root other) 128
    ++ bytes_of 16 (bits_number (own_right target viewer root other) 128)
