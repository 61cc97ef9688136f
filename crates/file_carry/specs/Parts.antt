-- A file cut into parts, one for a message. All numbers are big-endian.
use Rattle.std.specs.Prelude.{ℕ, zero, suc, ◌+◌, ◌-◌, ◌*◌, ◌≤◌, max, List, [], ◌∷◌, ◌++◌, length, take, drop}
use Rattle.std.specs.Prelude.{replicate}
use Rattle.std.specs.Int.{w16, w64, div_ceil, to_be_bytes}
use Rattle.express_words.specs.Limits.{IsWidth}

-- a width of messages that parts can have
abbrev pub IsPartWidth : ℕ → Type 0
IsPartWidth width = (32 ≤ width) × IsWidth width

-- how many parts a file of so many bytes has, where a part has room for so many; an empty file has one
unfoldable pub count_of : ℕ → ℕ → ℕ
count_of len room = max 1 (div_ceil len room)

-- what a part begins with: id, index, count, how many bytes are used, and two zeros
abbrev pub header : ℕ → ℕ → ℕ → ℕ → List ℕ
header id index count used =
    to_be_bytes w64 id
    ++ (to_be_bytes w16 index ++ (to_be_bytes w16 count ++ (to_be_bytes w16 used ++ (0 ∷ 0 ∷ []))))

-- the used bytes, with zeros behind them
abbrev pub filled : ℕ → List ℕ → List ℕ
filled room content = content ++ replicate (room - length content) 0

-- the bytes of a file that its part of this index has
abbrev pub content_of : List ℕ → ℕ → ℕ → List ℕ
content_of file room index = take room (drop (index * room) file)

unfoldable pub part_of : List ℕ → ℕ → ℕ → ℕ → List ℕ
part_of file id width index =
    let room = width - 16 in
    let content = content_of file room index in
    header id index (count_of (length file) room) (length content) ++ filled room content

-- so many parts of a file, from an index on
abbrev pub parts_from : List ℕ → ℕ → ℕ → ℕ → ℕ → List (List ℕ)
parts_from file id width index zero = []
parts_from file id width index (suc n) = part_of file id width index ∷ parts_from file id width (index + 1) n

-- all parts of a file
unfoldable pub cut : List ℕ → ℕ → ℕ → List (List ℕ)
cut file id width = parts_from file id width 0 (count_of (length file) (width - 16))
