-- The fields of what a box holds.
use Rattle.std.specs.Prelude.{◌≡◌, ℕ, ◌<◌, ◌≤◌, List, length, take, drop, true}
use Rattle.std.specs.Int.{w16, w64, from_be_bytes}
use Rattle.file_carry.specs.Boxes.{is_zeros}
use Rattle.letter_pieces.specs.Pieces.{Piece, header}

abbrev pub length_in : List ℕ → ℕ
length_in bytes = from_be_bytes w16 (take 2 bytes)

abbrev pub letter_in : List ℕ → ℕ
letter_in bytes = from_be_bytes w64 (take 8 (drop 2 bytes))

-- a box that holds this text is the piece by its bytes in front and behind
pub record IsWritten (p : Piece) (head rest : List ℕ) : Type 0 where
  pub some : 1 ≤ length p.text
  pub part_fits : p.part < p.parts
  pub zeros : is_zeros rest ≡ true
  pub header_is : head ≡ header p
