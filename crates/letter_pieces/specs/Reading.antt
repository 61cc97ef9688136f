-- What a piece of the code holds, and why a text makes no letter.
use Rattle.std.specs.Prelude.{ℕ, ◌==◌, if◌then◌else◌}
use Rattle.letter_pieces.specs.declared.piece.Piece.{Piece as CodePiece}
use Rattle.letter_pieces.specs.declared.fault.LetterFault.{LetterFault}
use Rattle.letter_pieces.specs.declared.fault.LetterFault.TheVariants.{NoText, TooLong}
use Rattle.letter_pieces.specs.Sizes.{most_text}
use Rattle.letter_pieces.specs.Pieces.{Piece}

-- a piece with the bytes of its text
abbrev pub content : CodePiece → Piece
content p = record { letter = p.letter.0; part = p.part; parts = p.parts; text = p.text.now }

-- why a text of so many bytes that makes no letter for a card doesn't
abbrev pub fault_of : ℕ → ℕ → ℕ → LetterFault
fault_of addresses width len = if len == 0 then NoText else TooLong (most_text addresses width)
