use Rattle.std.proofs.Common.{◌≡◌, ◌≤◌, length}
use Rattle.std.specs.List.{All}
use Rattle.known_pieces.specs.Telling.{Accounts, IsTried}
use Rattle.letter_reader.specs.Reader.{AreApart, AreBoxes, told_as}
use Rattle.letter_reader.proofs.telling.tell.Given as goal

abbrev pub invariant-loop-before : goal.invariant-loop-before
invariant-loop-before l = record {
  accounts : Accounts l.card.addresses l.readings (told_as l.known.items l.left.items);
  tried : length l.left.items ≡ l.before → All (IsTried l.known.items) l.left.items;
  fewer : length l.left.items ≤ l.before;
  wide : AreBoxes l.card.width l.left.items;
  apart : AreApart l.card.width l.known.items;
}

abbrev pub decreases-loop-before : goal.decreases-loop-before
decreases-loop-before l = l.before
