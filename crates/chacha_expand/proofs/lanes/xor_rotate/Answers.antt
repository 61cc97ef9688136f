use Rattle.chacha_expand.proofs.LaneLemmas.{shifts_rotate}
use Rattle.chacha_expand.proofs.lanes.xor_rotate.Goals as goal

pub returns : goal.returns
returns c = shifts_rotate c.args.turn c.requires.0 c.requires.1 c.args.a c.args.b c.fits-a.0 c.fits-b.0
