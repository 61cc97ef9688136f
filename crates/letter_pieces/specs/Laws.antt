-- What holds of pieces and their places.
use Rattle.std.specs.Prelude.{◌≡◌, ◌≢◌, ℕ, ◌^◌, ◌<◌, ◌≤◌, min, List, length, replicate, All, AllPairs}
use Rattle.std.specs.Prelude.{IsPermutation}
use Rattle.std.specs.List.{range_with_len, flat_map}
use Rattle.letter_pieces.specs.Sizes.{IsCard, IsLetterLength, copies, most_parts}
use Rattle.letter_pieces.specs.Pieces.{Piece, Fits, Spells, encoded, parts_of, piece_of, pieces_of, joined}
use Rattle.letter_pieces.specs.Places.{places, part_places, places_of}

-- a piece's bytes hold it
abbrev pub EncodedHold : Type 0
EncodedHold = (width : ℕ) (p : Piece) → Fits width p → Spells p (encoded width p)

-- no bytes hold two pieces
abbrev pub OnePiece : Type 0
OnePiece = (p q : Piece) (bytes : List ℕ) → Spells p bytes → Spells q bytes → p ≡ q

-- two pieces with the same bytes are one piece
abbrev pub EncodedDiffer : Type 0
EncodedDiffer = (width : ℕ) (p q : Piece) → Fits width p → Fits width q
    → encoded width p ≡ encoded width q → p ≡ q

-- an empty box, of zeros, holds none
abbrev pub EmptyHoldNone : Type 0
EmptyHoldNone = (p : Piece) (n : ℕ) → Spells p (replicate n 0) → ⊥

-- a letter that its writer gave for a card
pub record IsLetter (addresses width id : ℕ) (text : List ℕ) : Type 0 where
  pub card : IsCard addresses width
  pub id_fits : id < 2 ^ 64
  pub length_fits : IsLetterLength addresses width (length text)

-- each part of a letter is a piece for the card's boxes
abbrev pub PartsFit : Type 0
PartsFit = (addresses width id : ℕ) (text : List ℕ) (part : ℕ) → IsLetter addresses width id text
    → part < parts_of width (length text) → Fits width (piece_of width id text part)

-- a letter has no more parts than the card has places for
abbrev pub PartsHavePlaces : Type 0
PartsHavePlaces = (addresses width id : ℕ) (text : List ℕ) → IsLetter addresses width id text
    → parts_of width (length text) ≤ most_parts addresses

-- the texts of a letter's pieces, in order, are its text
abbrev pub PiecesJoin : Type 0
PiecesJoin = (addresses width id : ℕ) (text : List ℕ) → IsLetter addresses width id text
    → joined (pieces_of width id text) ≡ text

-- the places of a letter are all addresses of the card, each once
abbrev pub PlacesPermuted : Type 0
PlacesPermuted = (addresses id : ℕ) → IsPermutation (range_with_len 0 addresses) (places id addresses)

-- each part has three places, or as many as the card has addresses
abbrev pub PartsAreCopied : Type 0
PartsAreCopied = (addresses id part : ℕ) → part < most_parts addresses
    → length (part_places addresses id part) ≡ min copies addresses

-- the places of all pieces of a letter
abbrev pub letter_places : ℕ → ℕ → ℕ → List ℕ → List ℕ
letter_places addresses width id text = flat_map (places_of addresses) (pieces_of width id text)

-- A letter never meets itself: no address is a place of its pieces twice,
abbrev pub PlacesDiffer : Type 0
PlacesDiffer = (addresses width id : ℕ) (text : List ℕ)
    → AllPairs (λ a b. a ≢ b) (letter_places addresses width id text)

-- and each is one of the card's.
abbrev pub PlacesAreOnTheCard : Type 0
PlacesAreOnTheCard = (addresses width id : ℕ) (text : List ℕ)
    → All (λ a. a < addresses) (letter_places addresses width id text)
