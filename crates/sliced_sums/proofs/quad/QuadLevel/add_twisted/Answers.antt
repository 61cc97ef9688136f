use Rattle.std.specs.Prelude.{bit_xor}
use Rattle.tower_numbers.specs.Levels.{product_at, twist_at}
use Rattle.std.specs.Int.Bits.{xor_assoc}
use Rattle.sliced_sums.proofs.Joined.{joined_sum, joined_twist}
use Rattle.sliced_sums.proofs.quad.QuadLevel.add_twisted.Goals as goal

pub returns : goal.returns
returns g c j h =
    let k = g.K.Level in
    let low = c.add.ensures j h in
    let high = c.add-2.ensures j h in
    let turned = c.add_twisted.ensures j h in
    let a = c.args.self.now in
    let b = c.args.other.now in
    let below = g.met.K.Level.below in
    let by = product_at k.level (twist_at k.level) (k.at b.high j) in
    let twist = joined_twist k.level (k.at b.high j) (k.at b.low j) (below b.high j) (below b.low j) in
    let sum = joined_sum k.level (k.at a.high j) (k.at a.low j) (bit_xor (k.at b.low j) by) (k.at b.high j) (below a.low j) (below b.high j) in
    let turn = xor_assoc (k.at a.high j) (k.at b.low j) by in
    cc
