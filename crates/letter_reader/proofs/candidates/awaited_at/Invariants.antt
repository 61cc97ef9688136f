use Rattle.std.proofs.Common.{◌≡◌, ◌<◌, take}
use Rattle.std.specs.List.{All, filter}
use Rattle.subset_search.specs.Subsets.{boxes_at}
use Rattle.known_pieces.specs.Telling.{bytes_of, is_awaited}
use Rattle.letter_reader.proofs.candidates.awaited_at.Given as goal

abbrev pub invariant-loop-i : goal.invariant-loop-i
invariant-loop-i l = record {
  pieces : boxes_at (bytes_of l.known) l.awaited.items ≡ bytes_of (filter (is_awaited l.address) (take l.i
      l.known));
  known : All (λ i. i < l.i) l.awaited.items;
}
