use Rattle.std.proofs.Common.{◌≡◌, ◌*◌, take}
use Rattle.dpf_rules.specs.Expansion.{stream_bytes}
use Rattle.chacha_expand.proofs.stream.stream_into.Given as goal

abbrev pub invariant-loop-group : goal.invariant-loop-group
invariant-loop-group l = take (512 * l.group) l.out ≡ stream_bytes l.key l.stream 0 (512 * l.group)
