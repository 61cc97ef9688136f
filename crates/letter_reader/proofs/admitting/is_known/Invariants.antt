use Rattle.std.proofs.Common.{◌≡◌, ℕ, ◌<◌, get_or, []}
use Rattle.known_pieces.specs.Telling.{bytes_of}
use Rattle.letter_reader.proofs.admitting.is_known.Given as goal

abbrev pub invariant-loop-piece : goal.invariant-loop-piece
invariant-loop-piece l = (k : ℕ) → k < l.piece-index → get_or (bytes_of l.known) k [] ≡ l.bytes → ⊥
