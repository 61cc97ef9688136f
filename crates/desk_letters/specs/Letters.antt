-- A letter in a box: the text's length, an id, a digest and the text. All numbers are big-endian.
use Rattle.std.specs.Prelude.{◌≡◌, ℕ, ◌-◌, ◌<◌, ◌≤◌, ◌^◌, List, ◌++◌, length, take, drop}
use Rattle.std.specs.Int.{w16, w64, to_be_bytes, from_be_bytes}
use Rattle.sha2.specs.Sha256.{sha256}
use Rattle.file_carry.specs.Parts.{filled}

-- the most bytes of text in a box of that width
abbrev pub room : ℕ → ℕ
room width = width - 26

-- the length of a text, and its id
abbrev pub front : ℕ → ℕ → List ℕ
front used id = to_be_bytes w16 used ++ to_be_bytes w64 id

-- the first half of the SHA-256 digest of length, id and text
unfoldable pub digest_of : ℕ → List ℕ → List ℕ
digest_of id text = take 16 (sha256 (front (length text) id ++ text))

-- a letter in a box of that width: zeros stand behind the text
unfoldable pub letter_of : ℕ → ℕ → List ℕ → List ℕ
letter_of width id text = (front (length text) id ++ digest_of id text) ++ filled (room width) text

-- the fields of what a box holds
abbrev pub length_in : List ℕ → ℕ
length_in bytes = from_be_bytes w16 (take 2 bytes)

abbrev pub id_in : List ℕ → ℕ
id_in bytes = from_be_bytes w64 (take 8 (drop 2 bytes))

-- an id and a text of which a letter is made, for a box of that width
pub record Fits (width id : ℕ) (text : List ℕ) : Type 0 where
  pub width_fits : width ≤ 4096
  pub id_fits : id < 2 ^ 64
  pub some : 1 ≤ length text
  pub most : length text ≤ room width

-- the box holds the letter of this id and text
pub record Spells (id : ℕ) (text bytes : List ℕ) : Type 0 where
  pub fits : Fits (length bytes) id text
  pub is : bytes ≡ letter_of (length bytes) id text

abbrev pub IsNoLetter : List ℕ → Type 0
IsNoLetter bytes = (id : ℕ) (text : List ℕ) → Spells id text bytes → ⊥
