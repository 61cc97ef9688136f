-- What holds of letters, and of a letter that is written to the plain table.
use Rattle.std.specs.Prelude.{◌≡◌, ℕ, List}
use Rattle.file_carry.specs.Carried.{Journal, IsCarried, IsUnwritten, bytes_given, result_at}
use Rattle.desk_letters.specs.Letters.{Fits, letter_of}
use Rattle.desk_letters.specs.Opening.{Content, Empty, Letter, Opens}

-- no box holds two things
abbrev pub OneContent : Type 0
OneContent = (c d : Content) (bytes : List ℕ) → Opens c bytes → Opens d bytes → c ≡ d

-- a letter opens as what was sealed
abbrev pub SealedOpen : Type 0
SealedOpen = (width id : ℕ) (text : List ℕ) → Fits width id text
    → Opens (Letter id text) (letter_of width id text)

-- where one letter was written to a box that was live and clear, and nothing else since, its read gives bytes
-- that open as that letter
abbrev pub WrittenAreRead : Type 0
WrittenAreRead = (j : Journal) (address id : ℕ) (text : List ℕ) (read : ℕ) → Fits j.width id text
    → IsCarried j address (letter_of j.width id text) read
    → Opens (Letter id text) (bytes_given (result_at j read))

-- the read of a box that was live and clear, to which nothing was written, gives bytes that open as none
abbrev pub UnwrittenAreEmpty : Type 0
UnwrittenAreEmpty = (j : Journal) (read : ℕ) → IsUnwritten j read
    → Opens Empty (bytes_given (result_at j read))
