use Rattle.std.proofs.Common.{length}
use Rattle.subset_search.specs.Subsets.{boxes_at, chosen_below}
use Rattle.known_pieces.specs.Telling.{bytes_of}
use Rattle.known_pieces.specs.Opening.{AreMarked}
use Rattle.letter_reader.proofs.found.mark.Given as goal

abbrev pub invariant-loop-k : goal.invariant-loop-k
invariant-loop-k l =
    AreMarked l.address
    (chosen_below (length l.tried) (boxes_at (bytes_of l.initial.known) l.tried) l.chosen) l.initial.known
    l.known
