use Rattle.std.proofs.Common.{arith, length-append, ◌≡◌, ◌∙◌}
use Rattle.block_region.proofs.ArrayLaws.{taken-array, taken-blocks, taken-step, each-step}
use Rattle.block_region.proofs.block_array.BlockArray.open.Goals as goal

pub invariant_of-result : goal.invariant_of-result
invariant_of-result c =
    let ended : c.loop.counter ≡ c.args.count = omega arith in
    let whole = rw ended at c.loop.invariant.region in
    rw whole (taken-array _ c.args.size c.args.count _ (c.loop.invariant.count ∙ ended) c.loop.invariant.each)

pub returns : goal.returns
returns c =
    let ended : c.loop.counter ≡ c.args.count = omega arith in
    let whole = rw ended at c.loop.invariant.region in
    rw whole (taken-blocks c.loop.region.home c.args.size c.args.count)

pub loop-preserved : goal.loop-preserved
loop-preserved c =
    let step = taken-step _ c.args.size c.loop.counter c.args.count c.loop.region c.take.new.self c.in-Some.block c.loop-test.true c.loop.invariant.region c.in-Some.ensures.taken in
    record {
      region = step.0;
      count = rw (c.in-Ok-push.ensures.items, length-append, c.loop.invariant.count);
      each = rw c.in-Ok-push.ensures.items (each-step _ _ _ _ c.loop.invariant.count step.1 c.loop.invariant.each);
    }
