-- The letters that readings tell.
use Rattle.std.specs.Prelude.{◌≡◌, ◌==◌, ℕ, List, length, map, count_by, All}
use Rattle.std.specs.List.{AllZip}
use Rattle.letter_pieces.specs.Pieces.{Piece, Spells, joined}
use Rattle.known_pieces.specs.Known.{Reading}
use Rattle.known_pieces.specs.Telling.{Told, Tells, pieces_in}
use Rattle.told_letters.specs.declared.heading.Heading.{Heading}
use Rattle.told_letters.specs.declared.partial.Partial.{Partial}
use Rattle.told_letters.specs.Parts.{parts_in, IsWhole, IsPartial}
use Rattle.told_letters.specs.Listing.{AreListed}

-- a letter and its text
pub record Letter : Type 0 where
  pub heading : Heading
  pub text : List ℕ

-- the letters, those of which parts are missing, and the readings that nothing opens
pub record Mail : Type 0 where
  pub letters : List Letter
  pub partial : List Partial
  pub unopened : List Reading

-- These are the letters whose parts are all known, in the order in which they became whole. A letter's text
-- is that of its parts, joined.
pub record AreLetters (known : List Piece) (letters : List Letter) : Type 0 where
  pub whole : AreListed IsWhole known (map (λ l. l.heading) letters)
  pub texts : All (λ l. l.text ≡ joined (parts_in known l.heading)) letters

-- These are the letters of which some parts are known, and some aren't, in the order in which their first
-- part became known, and how many of their parts are known.
pub record ArePartial (known : List Piece) (partial : List Partial) : Type 0 where
  pub begun : AreListed (IsPartial known) known (map (λ q. q.heading) partial)
  pub counts : All (λ q. q.known ≡ length (parts_in known q.heading)) partial

-- letters put together of known pieces, of which each has these bytes
pub record IsGathered (bytes : List (List ℕ)) (letters : List Letter) (partial : List Partial) : Type 0 where
  -- the pieces, in the order in which they became known
  pub known : List Piece
  pub spelled : AllZip Spells known bytes
  pub letters_are : AreLetters known letters
  pub partial_are : ArePartial known partial

-- What readings of a card of so many addresses tell, put together.
pub record IsMail (addresses : ℕ) (readings : List Reading) (mail : Mail) : Type 0 where
  pub told : Told
  pub tells : Tells addresses readings told
  pub gathered : IsGathered (pieces_in told) mail.letters mail.partial
  pub unopened : mail.unopened ≡ told.left

-- how many of the readings are of the box at an address
abbrev pub count_at : ℕ → List Reading → ℕ
count_at address readings = count_by (λ r. r.address == address) readings
