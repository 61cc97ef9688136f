use Rattle.sliced_sums.proofs.Joined.{joined_sum}
use Rattle.sliced_sums.proofs.quad.QuadLevel.add.Goals as goal

pub returns : goal.returns
returns g c j h =
    let k = g.K.Level in
    let low = c.add.ensures j h in
    let high = c.add-2.ensures j h in
    let a = c.args.self.now in
    let b = c.args.other.now in
    let below = g.met.K.Level.below in
    let step = joined_sum k.level (k.at a.high j) (k.at a.low j) (k.at b.high j) (k.at b.low j) (below a.low j) (below b.low j) in
    cc
