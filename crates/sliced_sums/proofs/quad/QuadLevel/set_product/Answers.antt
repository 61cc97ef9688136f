use Rattle.sliced_sums.proofs.Joined.{joined_product}
use Rattle.sliced_sums.proofs.quad.QuadLevel.set_product.Goals as goal

pub returns : goal.returns
returns g c j h =
    let k = g.K.Level in
    let a = c.args.a.now in
    let b = c.args.b.now in
    let below = g.met.K.Level.below in
    let left = c.add.ensures j h in
    let right = c.add-2.ensures j h in
    let whole = c.set_product.ensures j h in
    let lows = c.set_product-2.ensures j h in
    let less = c.add-3.ensures j h in
    let highs = c.set_product-3.ensures j h in
    let low = c.add-4.ensures j h in
    let crossed = c.add-5.ensures j h in
    let high = c.add_twisted.ensures j h in
    let step = joined_product k.level (k.at a.high j) (k.at a.low j) (k.at b.high j) (k.at b.low j) (below a.high j) (below a.low j) (below b.high j) (below b.low j) in
    cc
