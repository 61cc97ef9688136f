-- What holds of the letters that are told.
use Rattle.std.specs.Prelude.{◌≡◌, ℕ, List, length, All}
use Rattle.std.specs.List.{Contains}
use Rattle.letter_pieces.specs.Laws.{IsLetter}
use Rattle.letter_pieces.specs.Pieces.{Piece, Fits, encoded, parts_of, pieces_of}
use Rattle.known_pieces.specs.Peeling.{Box, readings_of, IsTable, HasOneSum, Peels, FewAreAwaited}
use Rattle.told_letters.specs.Mail.{Letter, Mail, IsMail}

-- a letter that was written, as it is told
abbrev pub letter_of : ℕ → ℕ → List ℕ → Letter
letter_of width id text = record {
  heading = record { letter = record { 0 = id }; parts = parts_of width (length text) };
  text = text;
}

-- No box has a piece of a letter's id and number of parts that isn't the letter's: nobody else uses its id.
abbrev pub HasItsId : ℕ → ℕ → List ℕ → List Box → Type 0
HasItsId width id text boxes =
    (b : Box) (p : Piece) → Contains boxes b → Contains b.pieces (encoded width p) → Fits width p
    → p.letter ≡ id → p.parts ≡ parts_of width (length text) → Contains (pieces_of width id text) p

-- Of a table that can be peeled each letter is told, with its text, whose pieces are all peeled.
abbrev pub PeeledLettersAreTold : Type 0
PeeledLettersAreTold = (addresses width id : ℕ) (text : List ℕ) (boxes : List Box) (order : List (List ℕ))
    (mail : Mail) → IsTable addresses width boxes → HasOneSum addresses width boxes → Peels boxes order
    → IsLetter addresses width id text → HasItsId width id text boxes
    → All (λ p. Contains order (encoded width p)) (pieces_of width id text)
    → (is : IsMail addresses (readings_of width boxes) mail) → FewAreAwaited is.told
    → Contains mail.letters (letter_of width id text)
