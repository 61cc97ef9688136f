use Rattle.chacha_expand.proofs.LaneLemmas.{low_fits, low_cast}
use Rattle.chacha_expand.proofs.halves.low_words.Goals as goal

pub overflow_cast-result : goal.overflow_cast-result
overflow_cast-result c = low_fits c.args.halves c.fits-halves.0 c.fits-halves.1

pub returns : goal.returns
returns c = low_cast c.args.halves c.fits-halves.0 c.fits-halves.1
