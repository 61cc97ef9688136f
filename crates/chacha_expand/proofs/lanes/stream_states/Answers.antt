use Rattle.std.proofs.Common.{refl, arith}
use Rattle.chacha_expand.proofs.LaneLemmas.{below_eight}
use Rattle.chacha_expand.proofs.lanes.stream_states.Goals as goal

pub returns : goal.returns
returns c =
    below_eight _
    (rw (c.low_words.ensures 0 (omega arith), c.high_words.ensures 0 (omega arith), c.low_words-2.ensures 0 (omega arith), c.high_words-2.ensures 0 (omega arith)) refl)
    (rw (c.low_words.ensures 1 (omega arith), c.high_words.ensures 1 (omega arith), c.low_words-2.ensures 1 (omega arith), c.high_words-2.ensures 1 (omega arith)) refl)
    (rw (c.low_words.ensures 2 (omega arith), c.high_words.ensures 2 (omega arith), c.low_words-2.ensures 2 (omega arith), c.high_words-2.ensures 2 (omega arith)) refl)
    (rw (c.low_words.ensures 3 (omega arith), c.high_words.ensures 3 (omega arith), c.low_words-2.ensures 3 (omega arith), c.high_words-2.ensures 3 (omega arith)) refl)
    (rw (c.low_words.ensures 4 (omega arith), c.high_words.ensures 4 (omega arith), c.low_words-2.ensures 4 (omega arith), c.high_words-2.ensures 4 (omega arith)) refl)
    (rw (c.low_words.ensures 5 (omega arith), c.high_words.ensures 5 (omega arith), c.low_words-2.ensures 5 (omega arith), c.high_words-2.ensures 5 (omega arith)) refl)
    (rw (c.low_words.ensures 6 (omega arith), c.high_words.ensures 6 (omega arith), c.low_words-2.ensures 6 (omega arith), c.high_words-2.ensures 6 (omega arith)) refl)
    (rw (c.low_words.ensures 7 (omega arith), c.high_words.ensures 7 (omega arith), c.low_words-2.ensures 7 (omega arith), c.high_words-2.ensures 7 (omega arith)) refl)
