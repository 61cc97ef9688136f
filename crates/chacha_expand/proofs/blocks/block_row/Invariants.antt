use Rattle.std.proofs.Common.{◌≡◌, ℕ, ◌*◌, List, take, length}
use Rattle.dpf_rules.specs.Expansion.{stream_bytes}
use Rattle.chacha_expand.specs.Halves.{HasHalves}
use Rattle.chacha_expand.proofs.blocks.block_row.Given as goal

abbrev pub invariant-loop-k : goal.invariant-loop-k
invariant-loop-k l = record {
  size : length l.bytes ≡ 64;
  written : (key : List ℕ) (stream p : ℕ) → HasHalves l.halves l.j key stream p → take (8 * l.k) l.bytes ≡ stream_bytes key stream (4 * p) (8 * l.k);
}
