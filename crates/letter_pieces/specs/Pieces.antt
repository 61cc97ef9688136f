-- A letter cut into pieces, and a piece as the bytes of a box. All numbers are big-endian.
use Rattle.std.specs.Prelude.{◌≡◌, ℕ, ◌^◌, ◌<◌, ◌≤◌, List, [], ◌∷◌, ◌++◌, length, map, take}
use Rattle.std.specs.Int.{w16, w64, to_be_bytes}
use Rattle.std.specs.List.{range_with_len, flat_map}
use Rattle.sha2.specs.Sha256.{sha256}
use Rattle.file_carry.specs.Parts.{IsPartWidth, count_of, content_of, filled}
use Rattle.letter_pieces.specs.Sizes.{room}

-- one part of a letter: the letter's id, which part it is, counted from 0, how many there are, and its text
pub record Piece : Type 0 where
  pub letter : ℕ
  pub part : ℕ
  pub parts : ℕ
  pub text : List ℕ

-- ---- a piece in a box

-- the text's length, the letter's id, the part and the parts
abbrev pub front : Piece → List ℕ
front p = to_be_bytes w16 (length p.text) ++ (to_be_bytes w64 p.letter ++ (p.part ∷ (p.parts ∷ [])))

-- the first half of the SHA-256 digest of all of these and the text
unfoldable pub digest_of : Piece → List ℕ
digest_of p = take 16 (sha256 (front p ++ p.text))

-- what stands in front of the text
abbrev pub header : Piece → List ℕ
header p = front p ++ digest_of p

-- the bytes of a box of that width: zeros stand behind the text
unfoldable pub encoded : ℕ → Piece → List ℕ
encoded width p = header p ++ filled (room width) p.text

-- a piece that a box of that width holds
pub record Fits (width : ℕ) (p : Piece) : Type 0 where
  pub width_is : IsPartWidth width
  pub letter_fits : p.letter < 2 ^ 64
  pub parts_fit : p.parts < 256
  pub part_fits : p.part < p.parts
  pub some : 1 ≤ length p.text
  pub most : length p.text ≤ room width

-- these bytes hold that piece
pub record Spells (p : Piece) (bytes : List ℕ) : Type 0 where
  pub fits : Fits (length bytes) p
  pub is : bytes ≡ encoded (length bytes) p

abbrev pub IsNoPiece : List ℕ → Type 0
IsNoPiece bytes = (p : Piece) → Spells p bytes → ⊥

-- ---- the pieces of a letter

-- how many parts a text of so many bytes has in boxes of that width
abbrev pub parts_of : ℕ → ℕ → ℕ
parts_of width len = count_of len (room width)

-- a letter's piece of that part
abbrev pub piece_of : ℕ → ℕ → List ℕ → ℕ → Piece
piece_of width id text part = record {
  letter = id;
  part = part;
  parts = parts_of width (length text);
  text = content_of text (room width) part;
}

-- all pieces of a letter, in the order of its parts
abbrev pub pieces_of : ℕ → ℕ → List ℕ → List Piece
pieces_of width id text = map (piece_of width id text) (range_with_len 0 (parts_of width (length text)))

-- the texts of pieces, one behind the other
abbrev pub joined : List Piece → List ℕ
joined pieces = flat_map (λ p. p.text) pieces
