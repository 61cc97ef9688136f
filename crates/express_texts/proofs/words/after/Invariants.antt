use Rattle.std.proofs.Common.{◌≡◌, length}
use Rattle.express_texts.specs.LineFields.{after}
use Rattle.express_texts.proofs.words.after.Given as goal

abbrev pub invariant-loop-wanted : goal.invariant-loop-wanted
invariant-loop-wanted l = after l.wanted l.rest ≡ after l.word l.bytes

abbrev pub decreases-loop-wanted : goal.decreases-loop-wanted
decreases-loop-wanted l = length l.wanted
