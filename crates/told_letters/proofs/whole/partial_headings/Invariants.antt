use Rattle.std.proofs.Common.{take}
use Rattle.told_letters.specs.Parts.{contents, IsPartial}
use Rattle.told_letters.specs.Listing.{AreListed}
use Rattle.told_letters.proofs.whole.partial_headings.Given as goal

abbrev pub invariant-loop-piece : goal.invariant-loop-piece
invariant-loop-piece l =
    AreListed (IsPartial (contents l.known)) (contents (take l.piece-index l.known)) l.headings.items
