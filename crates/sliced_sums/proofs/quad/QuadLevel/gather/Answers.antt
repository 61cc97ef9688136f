use Rattle.std.proofs.Common.{◌≡◌, ◌+◌, ◌/◌, ◌^◌, suc, slice_index, arith}
use Rattle.std.specs.Prelude.{◌*◌}
use Rattle.std.proofs.Math.Nat.{pow-suc}
use Rattle.sliced_sums.proofs.Fields.{field_joined}
use Rattle.sliced_sums.proofs.quad.QuadLevel.gather.Goals as goal

pub returns : goal.returns
returns g c j h =
    let k = g.K.Level.level in
    let n = slice_index c.args.bytes.now.numbers j in
    let from = c.args.from in
    let half = c.args.width / 2 in
    let double : 2 ^ suc k ≡ 2 ^ k * 2 = pow-suc 2 k in
    let width : c.args.width ≡ 2 ^ suc k = c.requires.width in
    let is_half : half ≡ 2 ^ k = omega arith in
    let both : half + half ≡ c.args.width = omega arith in
    let low = c.gather.ensures j h in
    let high = c.gather-2.ensures j h in
    let step = field_joined n from half in
    cc
