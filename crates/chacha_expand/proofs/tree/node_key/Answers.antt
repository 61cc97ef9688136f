use Rattle.std.proofs.Common.{◌≡◌, ℕ, ◌+◌, ◌*◌, ◌/◌, ap, ◌++◌, replicate, List, arith}
use Rattle.dpf_rules.specs.Expansion.{node_key}
use Rattle.chacha_expand.proofs.tree.node_key.Goals as goal

pub returns : goal.returns
unfolding node_key
returns c =
    let clear : c.args.state / 2 * 2 + 0 ≡ c.args.state / 2 * 2 = omega arith in
    rw clear (ap (λ (xs : List ℕ). xs ++ replicate 16 0) c.write_number.ensures)
