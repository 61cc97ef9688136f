use Rattle.std.proofs.Common.{take}
use Rattle.told_letters.specs.Parts.{contents, IsWhole}
use Rattle.told_letters.specs.Listing.{AreListed}
use Rattle.told_letters.proofs.whole.whole_headings.Given as goal

abbrev pub invariant-loop-i : goal.invariant-loop-i
invariant-loop-i l = AreListed IsWhole (contents (take l.i l.known)) l.headings.items
