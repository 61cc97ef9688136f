use Rattle.chacha_expand.proofs.LaneLemmas.{high_fits, high_cast}
use Rattle.chacha_expand.proofs.halves.high_words.Goals as goal

pub overflow_cast-result : goal.overflow_cast-result
overflow_cast-result c = high_fits c.args.halves c.fits-halves.0 c.fits-halves.1

pub returns : goal.returns
returns c = high_cast c.args.halves c.fits-halves.0 c.fits-halves.1
