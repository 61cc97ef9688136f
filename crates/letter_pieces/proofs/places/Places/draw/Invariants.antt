use Rattle.std.proofs.Common.{◌≡◌, length, take}
use Rattle.letter_pieces.specs.Places.{at_draw, places}
use Rattle.letter_pieces.proofs.places.Places.draw.Given as goal

abbrev pub invariant-loop-i : goal.invariant-loop-i
invariant-loop-i l = record {
  size : length l.order ≡ 64;
  at : l.stream ≡ at_draw l.fn.letter.0 l.i;
  first : take l.i l.order ≡ places l.fn.letter.0 l.i;
}
