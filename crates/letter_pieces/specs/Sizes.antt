-- How a letter is cut for the addresses of a card.
use Rattle.std.specs.Prelude.{ℕ, ◌-◌, ◌*◌, ◌/◌, ◌≤◌, max}
use Rattle.file_carry.specs.Parts.{IsPartWidth}

-- a card of so many addresses, whose boxes have that width in bytes
pub record IsCard (addresses width : ℕ) : Type 0 where
  pub some : 1 ≤ addresses
  pub most : addresses ≤ 64
  pub width_is : IsPartWidth width

-- the most bytes of text in a piece: a box without the piece's header
abbrev pub room : ℕ → ℕ
room width = width - 28

-- to so many addresses each piece is written, where a card has as many
abbrev pub copies : ℕ
copies = 3

-- the most parts of a letter: so many that no two need one address, and at least one
abbrev pub most_parts : ℕ → ℕ
most_parts addresses = max 1 (addresses / copies)

-- the most bytes of a letter
abbrev pub most_text : ℕ → ℕ → ℕ
most_text addresses width = most_parts addresses * room width

-- a text of so many bytes goes to such a card as a letter
pub record IsLetterLength (addresses width len : ℕ) : Type 0 where
  pub some : 1 ≤ len
  pub most : len ≤ most_text addresses width
