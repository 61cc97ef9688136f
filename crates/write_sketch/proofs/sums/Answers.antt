use Rattle.std.proofs.Common.{◌≡◌, ◌+◌, ◌-◌, ◌*◌, take, drop, ◌∙◌, ap, arith}
use Rattle.audit_rules.specs.Challenges.{sums_under}
use Rattle.write_sketch.proofs.Parts.{more_before}
use Rattle.write_sketch.proofs.sums.Goals as goal

pub loop-batch-preserved : goal.loop-batch-preserved
loop-batch-preserved c =
    let w = c.args.states.now in
    let places = c.args.addresses.now in
    let key = c.args.ckey.now in
    let from = 256 * c.loop-batch.batch in
    let size : from + 256 - from ≡ 256 = omega arith in
    let part = c.batch_sums.ensures ∙ ap (λ k. sums_under key (take k (drop from places)) (take k (drop from w))) size in
    more_before from 256 (256 * (c.loop-batch.batch + 1)) key places w _ c.loop-batch.sums c.batch_sums.result c.added-sums.result (omega arith) c.loop-batch.invariant part c.added-sums.ensures
