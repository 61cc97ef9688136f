use Rattle.rand_chacha.specs.Block.{column_round, diagonal_round}
use Rattle.chacha_expand.proofs.lanes.double_round.Goals as goal

pub returns : goal.returns
unfolding column_round diagonal_round
returns c j h =
    rw (
      ← c.quarter_round.ensures j h,
      ← c.quarter_round-2.ensures j h,
      ← c.quarter_round-3.ensures j h,
      ← c.quarter_round-4.ensures j h,
      ← c.quarter_round-5.ensures j h,
      ← c.quarter_round-6.ensures j h,
      ← c.quarter_round-7.ensures j h,
      ← c.quarter_round-8.ensures j h,
    )
