-- Known values, so that a wrong slice or order in the definitions does not check.
use Rattle.std.proofs.Common.{◌≡◌, ◌^◌, [], ◌∷◌, refl}
use Rattle.rand_core.specs.Steps.{u32_at}
use Rattle.rand_chacha.specs.Block.{quarter_round, column_round, diagonal_round, double_rounds, block_word}
use Rattle.dpf_rules.specs.Bytes.{value_in, bytes_of}
use Rattle.dpf_rules.specs.Expansion.{stream_byte, stream_bytes, node_key, child}
use Rattle.dpf_rules.specs.Evaluation.{prefixes_below, prefix_count}

-- the block of a key of zeros at counter 0 and nonce 0 (RFC 8439, appendix A.1, test vector 1)
pub left_of_one : child 1 0 ≡ 0x28bd8653e56a5d40903df1a0ade0b876
unfolding child node_key stream_bytes stream_byte value_in bytes_of u32_at quarter_round column_round diagonal_round double_rounds block_word
left_of_one = refl

pub right_of_zero : child 0 1 ≡ 0xc70d778bccef36a81aed8da0b819d2bd
unfolding child node_key stream_bytes stream_byte value_in bytes_of u32_at quarter_round column_round diagonal_round double_rounds block_word
right_of_zero = refl

-- no address has no prefix; one has 128; two that differ in their last bit share all of them; two that differ in their first
-- bit share the empty one
pub prefixes_of_none : prefix_count [] ≡ 0
unfolding prefixes_below
prefixes_of_none = refl

pub prefixes_of_one : prefix_count (5 ∷ []) ≡ 128
unfolding prefixes_below
prefixes_of_one = refl

pub prefixes_of_neighbours : prefix_count (0xffffffffffffffffffffffffffffffff ∷ 0xfffffffffffffffffffffffffffffffe ∷ []) ≡ 128
unfolding prefixes_below
prefixes_of_neighbours = refl

pub prefixes_of_halves : prefix_count (0 ∷ 2 ^ 127 ∷ []) ≡ 255
unfolding prefixes_below
prefixes_of_halves = refl
