use Rattle.std.proofs.Common.{ap, ◌∙◌, length, ℕ, List}
use Rattle.dpf_rules.specs.Expansion.{block, stream_bytes}
use Rattle.chacha_expand.proofs.tree.block_into.Goals as goal

pub returns : goal.returns
unfolding block
returns c = c.stream_into.ensures ∙ ap (λ (key : List ℕ). stream_bytes key 1 0 (length c.args.out.now)) c.node_key.ensures
