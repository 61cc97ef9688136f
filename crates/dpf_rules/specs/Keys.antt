-- The public part of a point function that is a message at a target and zeros at every other address, from
-- what both servers' states expand to on the path to the target.
-- Source: Boyle, Gilboa and Ishai, "Function Secret Sharing: Improvements and Extensions", CCS 2016,
-- section 3.
use Rattle.std.specs.Prelude.{ℕ, zero, suc, ◌+◌, ◌-◌, ◌%◌, ◌==◌, List, ◌++◌, map, length, slice_index_or}
use Rattle.std.specs.Prelude.{bit_xor, if◌then◌else◌}
use Rattle.std.specs.List.{range_with_len}
use Rattle.express_words.specs.Bytes.{xor_bytes}
use Rattle.dpf_rules.specs.Bytes.{bytes_of, words_bytes, bits_number}
use Rattle.dpf_rules.specs.Expansion.{with_bit, child, block}
use Rattle.dpf_rules.specs.Walk.{side_at, step}

-- ---- from two lists of expansions

-- a server's expansions on the path to the target: the raw pair of children at each level, and the last block
pub record Expansions : Type 0 where
  pub pairs : List (ℕ × ℕ)
  pub block : List ℕ

-- the raw pair at level i
abbrev pub pair_at : Expansions → ℕ → ℕ × ℕ
pair_at e i = slice_index_or e.pairs i (0, 0)

-- the member of a pair on a side
abbrev pub on_side : ℕ × ℕ → ℕ → ℕ
on_side pair side = if side == 0 then pair.0 else pair.1

-- a level's word: the sum of the two raw children on the side that is lost, with its own control bit
unfoldable pub level_word : ℕ × ℕ → ℕ × ℕ → ℕ → ℕ
level_word p q side =
    with_bit (bit_xor (on_side p (1 - side)) (on_side q (1 - side))) ((p.0 + q.0 + side + 1) % 2)

-- a level's right bit
unfoldable pub level_right : ℕ × ℕ → ℕ × ℕ → ℕ → ℕ
level_right p q side = (p.1 + q.1 + side) % 2

-- the public part: 128 words, 128 right bits, and the last correction
unfoldable pub keys : ℕ → List ℕ → Expansions → Expansions → List ℕ
keys target message e0 e1 =
    words_bytes (λ i. level_word (pair_at e0 i) (pair_at e1 i) (side_at target i)) 128
    ++ bytes_of 16 (bits_number (λ i. level_right (pair_at e0 i) (pair_at e1 i) (side_at target i)) 128)
    ++ xor_bytes (xor_bytes e0.block e1.block) message

-- ---- from honest expansions

-- the raw pair of children of a state
abbrev pub raw_pair : ℕ → ℕ × ℕ
raw_pair state = (child state 0, child state 1)

-- the honest expansions of a run of states, with a block of a width
unfoldable pub honest : (ℕ → ℕ) → ℕ → Expansions
honest states width = record {
  pairs = map (λ i. raw_pair (states i)) (range_with_len 0 128);
  block = block width (states 128);
}

-- both servers' states on the path to the target: each level is corrected by the word and right bit that it
-- makes
unfoldable pub path_at : ℕ → ℕ → ℕ → ℕ → ℕ × ℕ
path_at target root0 root1 zero = (with_bit root0 0, with_bit root1 1)
path_at target root0 root1 (suc i) =
    let side = side_at target i in
    let states = path_at target root0 root1 i in
    let word = level_word (raw_pair states.0) (raw_pair states.1) side in
    let right = level_right (raw_pair states.0) (raw_pair states.1) side in
    (step word right side states.0, step word right side states.1)

-- the public part of honest expansions
unfoldable pub honest_keys : ℕ → List ℕ → ℕ → ℕ → List ℕ
honest_keys target message root0 root1 =
    keys target message
    (honest (λ i. (path_at target root0 root1 i).0) (length message))
    (honest (λ i. (path_at target root0 root1 i).1) (length message))

-- the word and the right bit that level i of the path makes
unfoldable pub path_word : ℕ → ℕ → ℕ → ℕ → ℕ
path_word target root0 root1 i =
    let states = path_at target root0 root1 i in
    level_word (raw_pair states.0) (raw_pair states.1) (side_at target i)

unfoldable pub path_right : ℕ → ℕ → ℕ → ℕ → ℕ
path_right target root0 root1 i =
    let states = path_at target root0 root1 i in
    level_right (raw_pair states.0) (raw_pair states.1) (side_at target i)
