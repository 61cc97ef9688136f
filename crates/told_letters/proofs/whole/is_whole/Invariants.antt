use Rattle.std.proofs.Common.{ℕ, ◌<◌}
use Rattle.std.specs.Option.{IsSome}
use Rattle.told_letters.specs.Parts.{contents, first_piece}
use Rattle.told_letters.proofs.whole.is_whole.Given as goal

abbrev pub invariant-loop-part : goal.invariant-loop-part
invariant-loop-part l = (k : ℕ) → k < l.part → IsSome (first_piece (contents l.known) l.heading k)
