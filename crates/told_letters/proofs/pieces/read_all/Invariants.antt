use Rattle.std.proofs.Common.{take}
use Rattle.std.specs.List.{AllZip}
use Rattle.letter_pieces.specs.Pieces.{Spells}
use Rattle.known_pieces.specs.Telling.{bytes_of}
use Rattle.told_letters.specs.Parts.{contents}
use Rattle.told_letters.proofs.pieces.read_all.Given as goal

abbrev pub invariant-loop-piece : goal.invariant-loop-piece
invariant-loop-piece l = AllZip Spells (contents l.pieces.items) (bytes_of (take l.piece-index l.known))
