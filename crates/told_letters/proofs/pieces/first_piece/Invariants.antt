use Rattle.std.proofs.Common.{◌≡◌, take, None}
use Rattle.told_letters.specs.Parts.{contents, first_piece}
use Rattle.told_letters.proofs.pieces.first_piece.Given as goal

abbrev pub invariant-loop-piece : goal.invariant-loop-piece
invariant-loop-piece l = first_piece (contents (take l.piece-index l.known)) l.heading l.part ≡ None
