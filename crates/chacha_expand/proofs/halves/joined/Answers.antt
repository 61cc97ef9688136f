use Rattle.chacha_expand.proofs.LaneLemmas.{joined_is}
use Rattle.chacha_expand.proofs.halves.joined.Goals as goal

pub returns : goal.returns
returns c = joined_is c.args.low c.args.high c.fits-low.0 c.fits-high.0 c.fits-low.1 c.fits-high.1
