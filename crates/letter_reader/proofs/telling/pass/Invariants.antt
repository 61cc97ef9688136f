use Rattle.std.proofs.Common.{◌≡◌, ◌≤◌, List, ◌++◌, drop, length}
use Rattle.std.specs.List.{All}
use Rattle.known_pieces.specs.Known.{Reading}
use Rattle.known_pieces.specs.Telling.{Accounts, IsTried}
use Rattle.letter_reader.specs.Reader.{AreApart, AreBoxes, told_as}
use Rattle.letter_reader.proofs.telling.pass.Given as goal

abbrev pub invariant-loop-reading : goal.invariant-loop-reading
invariant-loop-reading l = record {
  accounts : (readings : List Reading)
      → Accounts l.card.addresses readings (told_as l.initial.known.items l.left)
      → Accounts l.card.addresses readings (told_as l.known.items (l.kept.items ++ drop l.reading-index
      l.left));
  tried : length l.kept.items ≡ l.reading-index → All (IsTried l.known.items) l.kept.items;
  fewer : length l.kept.items ≤ l.reading-index;
  wide : AreBoxes l.card.width l.kept.items;
  apart : AreApart l.card.width l.known.items;
}
