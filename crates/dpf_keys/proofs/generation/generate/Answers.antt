use Rattle.std.proofs.Common.{arith}
use Rattle.dpf_rules.proofs.PointLemmas.{leaves_differ, leaves_equal}
use Rattle.dpf_rules.proofs.KeysLemmas.{follows}
use Rattle.dpf_rules.proofs.WriteLemmas.{message_at_target, zeros_elsewhere, honest_walks}
use Rattle.dpf_keys.proofs.generation.generate.Goals as goal

pub returns-clause-honest : goal.returns-clause-honest
returns-clause-honest c = rw c.keys_into.ensures (honest_walks c.args.target c.args.message.now c.args.root0 c.args.root1)

pub returns-clause-leaves_differ : goal.returns-clause-leaves_differ
returns-clause-leaves_differ c =
    rw c.keys_into.ensures (leaves_differ _ c.args.target c.args.root0 c.args.root1 (follows c.args.target c.args.message.now c.args.root0 c.args.root1))

pub returns-clause-leaves_equal : goal.returns-clause-leaves_equal
returns-clause-leaves_equal c = λ address h other.
    rw c.keys_into.ensures (leaves_equal _ c.args.target c.args.root0 c.args.root1 (follows c.args.target c.args.message.now c.args.root0 c.args.root1) address h c.ranges.target.fits other)

pub returns-clause-sum_at_target : goal.returns-clause-sum_at_target
returns-clause-sum_at_target c = rw c.keys_into.ensures (message_at_target c.args.target c.args.message.now c.args.root0 c.args.root1)

pub returns-clause-sum_elsewhere : goal.returns-clause-sum_elsewhere
returns-clause-sum_elsewhere c = λ address h other.
    rw c.keys_into.ensures (zeros_elsewhere c.args.target c.args.message.now c.args.root0 c.args.root1 address h (omega arith) other)
