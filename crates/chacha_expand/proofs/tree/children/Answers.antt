use Rattle.std.proofs.Common.{◌≡◌, ◌∙◌, ap, ℕ, List, take, drop, refl, arith}
use Rattle.dpf_rules.specs.Bytes.{value_in}
use Rattle.dpf_rules.specs.Expansion.{child, node_key, stream_bytes}
use Rattle.chacha_expand.proofs.StreamLemmas.{stream_slice}
use Rattle.chacha_expand.proofs.tree.children.Goals as goal

pub returns-clause-left : goal.returns-clause-left
unfolding child
returns-clause-left c =
    let filled : c.stream_into.new.out ≡ stream_bytes (node_key c.args.state) 0 0 32 =
    c.stream_into.ensures ∙ ap (λ (key : List ℕ). stream_bytes key 0 0 32) c.node_key.ensures in
    c.read_number.ensures
    ∙ ap (λ (xs : List ℕ). value_in 256 (take 16 xs)) filled
    ∙ ap (value_in 256) (stream_slice (node_key c.args.state) 0 0 0 16 32 0 refl (omega arith))

pub returns-clause-right : goal.returns-clause-right
unfolding child
returns-clause-right c =
    let filled : c.stream_into.new.out ≡ stream_bytes (node_key c.args.state) 0 0 32 =
    c.stream_into.ensures ∙ ap (λ (key : List ℕ). stream_bytes key 0 0 32) c.node_key.ensures in
    c.read_number-2.ensures
    ∙ ap (λ (xs : List ℕ). value_in 256 (take 16 (drop 16 xs))) filled
    ∙ ap (value_in 256) (stream_slice (node_key c.args.state) 0 0 16 16 32 16 refl (omega arith))
