use Rattle.std.proofs.Common.{◌≡◌, ◌*◌, take}
use Rattle.dpf_rules.specs.Expansion.{stream_bytes}
use Rattle.chacha_expand.proofs.blocks.eight_blocks_into.Given as goal

abbrev pub invariant-loop-j : goal.invariant-loop-j
invariant-loop-j l = take (64 * l.j) l.out ≡ stream_bytes l.key l.stream (64 * l.block) (64 * l.j)
