use Rattle.std.proofs.Common.{◌≡◌, ℕ, ◌*◌, ◌/◌, ◌%◌, ◌^◌, ◌<◌, ◌∙◌, [], get_or, length, length-set, refl, arith}
use Rattle.sliced_sums.proofs.Filled.{filled}
use Rattle.sliced_sums.proofs.bytes.Bytes.of.Goals as goal

pub loop-at-init : goal.loop-at-init
loop-at-init c = record { size = refl; held = λ b h. absurd (omega arith) }

pub loop-at-preserved : goal.loop-at-preserved
loop-at-preserved c =
    let before = c.loop-at.invariant in
    let at = c.loop-at.at in
    let within : at < length c.loop-at.bytes = omega (arith, before.size, c.loop-at-test.true) in
    record {
      size = length-set c.loop-at.bytes at c.row.result ∙ before.size;
      held = filled c.loop-at.bytes at c.row.result [] (λ b row. (j : ℕ) → j < 256 → get_or row j 0 ≡ get_or c.args.numbers.now j 0 / 2 ^ (8 * b) % 2 ^ 8) within c.row.ensures before.held;
    }
