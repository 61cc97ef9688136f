use Rattle.std.proofs.Common.{◌≡◌, ℕ, ◌<◌, get_or, []}
use Rattle.subset_search.specs.Subsets.{boxes_at}
use Rattle.known_pieces.specs.Telling.{bytes_of}
use Rattle.letter_reader.proofs.opening.is_tried.Given as goal

abbrev pub invariant-loop-i : goal.invariant-loop-i
invariant-loop-i l =
    (k : ℕ) → k < l.i-index → get_or (boxes_at (bytes_of l.known) l.tried) k [] ≡ l.bytes → ⊥
