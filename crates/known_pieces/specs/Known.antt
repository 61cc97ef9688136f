-- Which pieces the readings of a card's boxes tell, whoever wrote what into them.
use Rattle.std.specs.Prelude.{◌≡◌, ℕ, ◌<◌, ◌≤◌, List, [], length, take, slice_index_or, All}
use Rattle.std.specs.List.{Contains}
use Rattle.letter_pieces.specs.Pieces.{Piece, Spells}
use Rattle.letter_pieces.specs.Places.{places_of}
use Rattle.subset_search.specs.Subsets.{added, IsSubset}

-- what the box at an address held when it was read
pub record Reading : Type 0 where
  pub address : ℕ
  pub bytes : List ℕ

-- these bytes hold a piece
abbrev pub IsPiece : List ℕ → Type 0
IsPiece bytes = (p : Piece) × Spells p bytes

-- these bytes hold a piece that is written to that address, on a card of so many addresses
abbrev pub Names : ℕ → ℕ → List ℕ → Type 0
Names addresses address bytes = (p : Piece) × Spells p bytes × Contains (places_of addresses p) address

-- so many known pieces, of those that are awaited at its address the newest, are tried with a reading
abbrev pub most_tried : ℕ
most_tried = 16

-- A reading holds a piece once some known pieces that name its address, each of them once and no more than
-- are tried, are added to it. With none of them the reading is the piece itself.
pub record IsOpened (addresses : ℕ) (readings : List Reading) (known : List (List ℕ)) (piece : List ℕ) : Type
    0 where
  pub reading : Reading
  pub is_read : Contains readings reading
  pub others : List (List ℕ)
  pub are_known : IsSubset others known
  pub most : length others ≤ most_tried
  pub name_it : All (Names addresses reading.address) others
  pub is : piece ≡ added reading.bytes others
  pub is_piece : IsPiece piece

-- pieces in the order in which they become known: each by a reading and some of those before it
abbrev pub AreKnown : ℕ → List Reading → List (List ℕ) → Type 0
AreKnown addresses readings pieces =
    (k : ℕ) → k < length pieces → IsOpened addresses readings (take k pieces) (slice_index_or pieces k [])

-- a piece that the readings tell
abbrev pub IsKnown : ℕ → List Reading → List ℕ → Type 0
IsKnown addresses readings piece =
    (pieces : List (List ℕ)) × AreKnown addresses readings pieces × Contains pieces piece
