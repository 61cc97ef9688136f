use Rattle.std.proofs.Common.{length, take, sym, ap, ◌∙◌}
use Rattle.share_store.specs.Shares.{Shares}
use Rattle.express_bench.proofs.Shares.{length-shares_with}
use Rattle.express_bench.proofs.parts.add.Goals as goal

pub loop-time-preserved : goal.loop-time-preserved
loop-time-preserved c =
    let made = c.add_write.ensures in
    let before = c.loop-time.store in (
      c.loop-time.invariant.0 ∙ sym (ap (λ (s : Shares). s.width) made),
      ap (λ (s : Shares). length s.boxes) made
          ∙ length-shares_with c.args.part.now (take c.args.boxes c.args.leaves.now) before.boxes
          ∙ c.loop-time.invariant.1,
    )
