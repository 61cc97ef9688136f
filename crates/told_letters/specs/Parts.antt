-- Which parts of a letter the known pieces give.
use Rattle.std.specs.Prelude.{◌==◌, ◌&&◌, ℕ, ◌<◌, ◌≤◌, List, Bool, Option, map, IsSome}
use Rattle.std.specs.List.{Contains, find, filter_map, range_with_len}
use Rattle.letter_pieces.specs.declared.piece.Piece.{Piece as CodePiece}
use Rattle.letter_pieces.specs.Pieces.{Piece}
use Rattle.letter_pieces.specs.Reading.{content}
use Rattle.told_letters.specs.declared.heading.Heading.{Heading}

abbrev pub contents : List CodePiece → List Piece
contents pieces = map content pieces

-- of which letter a piece is: an id with two numbers of parts is two letters
abbrev pub heading_of : Piece → Heading
heading_of p = record { letter = record { 0 = p.letter }; parts = p.parts }

-- whether a piece is that part of a letter
abbrev pub is_part : Heading → ℕ → Piece → Bool
is_part h part p = (p.letter == h.letter.0) && ((p.parts == h.parts) && (p.part == part))

-- the piece of a part that became known first: another of that part, with another text, doesn't count
abbrev pub first_piece : List Piece → Heading → ℕ → Option Piece
first_piece known h part = find (is_part h part) known

-- the parts of a letter that are known, in the order of its parts
abbrev pub parts_in : List Piece → Heading → List Piece
parts_in known h = filter_map (first_piece known h) (range_with_len 0 h.parts)

-- each part of a letter is known
pub record IsWhole (known : List Piece) (h : Heading) : Type 0 where
  pub some : 1 ≤ h.parts
  pub all : (part : ℕ) → part < h.parts → IsSome (first_piece known h part)

-- a part of a letter is known
abbrev pub IsBegun : List Piece → Heading → Type 0
IsBegun known h = Contains (map heading_of known) h

-- a part of a letter is known, and one isn't among all that are known in the end
pub record IsPartial (all known : List Piece) (h : Heading) : Type 0 where
  pub begun : IsBegun known h
  pub missing : IsWhole all h → ⊥
