use Rattle.std.proofs.Common.{◌≡◌, ◌/◌, ◌%◌, ◌^◌, ◌<◌, suc, arith}
use Rattle.std.specs.Prelude.{◌*◌}
use Rattle.std.proofs.Math.Nat.{pow-suc}
use Rattle.std.proofs.lemmas.Nat.{shl_whole, or_shifted}
use Rattle.sliced_sums.specs.Places.{sum_over}
use Rattle.sliced_sums.proofs.Parity.{sum_below, sum_joined}
use Rattle.sliced_sums.proofs.quad.QuadLevel.sum.Goals as goal

pub returns : goal.returns
returns g c =
    let k = g.K.Level.level in
    let x = c.args.self.now in
    let half = c.args.width / 2 in
    let double : 2 ^ suc k ≡ 2 ^ k * 2 = pow-suc 2 k in
    let width : c.args.width ≡ 2 ^ suc k = c.requires.width in
    let is_half : half ≡ 2 ^ k = omega arith in
    let below = g.met.K.Level.below in
    let highs = sum_over 256 (g.K.Level.at x.high) in
    let lows = sum_over 256 (g.K.Level.at x.low) in
    let high : highs < 2 ^ half = rw is_half (sum_below k 256 (g.K.Level.at x.high) (below x.high)) in
    let low : lows < 2 ^ half = rw is_half (sum_below k 256 (g.K.Level.at x.low) (below x.low)) in
    let whole : (highs * 2 ^ half) % 2 ^ 128 ≡ highs * 2 ^ half = shl_whole highs half half 128 high (omega arith) in
    let either = or_shifted highs half lows low in
    let sum = sum_joined k 256 (g.K.Level.at x.high) (g.K.Level.at x.low) (below x.low) in
    let e1 = c.sum-high.ensures in
    let e2 = c.sum-low.ensures in
    cc
