use Rattle.std.proofs.Common.{length, take, ap, ◌∙◌}
use Rattle.share_store.specs.Shares.{Shares}
use Rattle.store_tests.proofs.Lengths.{length-shares_with}
use Rattle.store_tests.proofs.shares.add.Goals as goal

pub returns-then-last-eq16-clause-boxes : goal.returns-then-last-eq16-clause-boxes
returns-then-last-eq16-clause-boxes c =
    ap (λ (s : Shares). length s.boxes) c.add_write.ensures
    ∙ length-shares_with c.args.part.now (take c.args.count c.args.leaves.now) c.args.store.now.boxes
    ∙ c.requires.boxes
