use Rattle.std.proofs.Common.{◌≡◌, ◌*◌, ◌/◌, ◌%◌, ◌^◌, ◌<◌, ◌∙◌, get_or, length, length-set, refl, arith}
use Rattle.sliced_sums.proofs.Filled.{filled}
use Rattle.sliced_sums.proofs.bytes.row.Goals as goal

pub loop-j-init : goal.loop-j-init
loop-j-init c = record { size = refl; held = λ i h. absurd (omega arith) }

pub loop-j-preserved : goal.loop-j-preserved
loop-j-preserved c =
    let before = c.loop-j.invariant in
    let j = c.loop-j.j in
    let within : j < length c.loop-j.row = omega (arith, before.size, c.loop-j-test.true) in
    record {
      size = length-set c.loop-j.row j _ ∙ before.size;
      held = filled c.loop-j.row j _ 0 (λ i v. v ≡ get_or c.args.numbers.now i 0 / 2 ^ (8 * c.args.at) % 2 ^ 8) within refl before.held;
    }

pub returns : goal.returns
returns c j h = c.loop-j.invariant.held j (omega (arith, c.loop-j.auto.j-end, c.loop-j-test.false))
