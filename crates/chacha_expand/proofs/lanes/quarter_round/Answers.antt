use Rattle.std.proofs.Common.{refl}
use Rattle.rand_chacha.specs.Block.{quarter_round}
use Rattle.chacha_expand.proofs.lanes.quarter_round.Goals as goal

pub returns : goal.returns
unfolding quarter_round
returns c j h =
    rw (
      c.xor_rotate-b-2.ensures j h,
      c.add-c-2.ensures j h,
      c.xor_rotate-d-2.ensures j h,
      c.add-a-2.ensures j h,
      c.xor_rotate-b.ensures j h,
      c.add-c.ensures j h,
      c.xor_rotate-d.ensures j h,
      c.add-a.ensures j h,
    ) refl
