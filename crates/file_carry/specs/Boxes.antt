-- What a box holds, and boxes joined to a file.
use Rattle.std.specs.Prelude.{◌≡◌, ℕ, zero, suc, ◌+◌, ◌-◌, max, Bool, ◌&&◌, ◌||◌, List, [], ◌∷◌, ◌++◌, length}
use Rattle.std.specs.Prelude.{take, drop, Result, Ok, Err, MatchResult, nat_lt, nat_le, ◌==◌, if◌then◌else◌}
use Rattle.std.specs.Int.{Width, w16, w64, byte_len, from_be_bytes}
use Rattle.std.specs.List.{list_all}

abbrev pub number_at : Width → ℕ → List ℕ → ℕ
number_at w place box = from_be_bytes w (take (byte_len w) (drop place box))

abbrev pub id_in : List ℕ → ℕ
id_in box = number_at w64 0 box

abbrev pub index_in : List ℕ → ℕ
index_in box = number_at w16 8 box

abbrev pub count_in : List ℕ → ℕ
count_in box = number_at w16 10 box

abbrev pub used_in : List ℕ → ℕ
used_in box = number_at w16 12 box

abbrev pub content_in : List ℕ → List ℕ
content_in box = take (used_in box) (drop 16 box)

abbrev pub is_zeros : List ℕ → Bool
is_zeros bytes = list_all (λ b. b == 0) bytes

-- Every part but the last is used whole. The last is empty only where it is the only one.
abbrev pub is_use : ℕ → ℕ → ℕ → ℕ → Bool
is_use room index count used =
    if index + 1 == count then nat_le used room && (nat_le 1 used || index == 0) else used == room

-- a part of this id, index and count
unfoldable pub is_part : ℕ → ℕ → ℕ → List ℕ → Bool
is_part id count index box =
    nat_lt index count
    && (id_in box == id
    && (index_in box == index
    && (count_in box == count
    && (is_use (length box - 16) index count (used_in box)
    && (is_zeros (take 2 (drop 14 box))
    && is_zeros (drop (used_in box) (drop 16 box)))))))

-- ---- boxes joined: the file, or the first box that is missing

abbrev pub before : List ℕ → Result (List ℕ) ℕ → Result (List ℕ) ℕ
before front (Ok rest) = Ok (front ++ rest)
before front (Err index) = Err index

-- so many boxes, which are to have the parts from an index on
abbrev pub joined : ℕ → ℕ → ℕ → ℕ → List (List ℕ) → Result (List ℕ) ℕ
joined id count index zero boxes = Ok []
joined id count index (suc n) [] = Err index
joined id count index (suc n) (box ∷ boxes) =
    if is_part id count index box
    then before (content_in box) (joined id count (index + 1) n boxes)
    else Err index

-- all boxes of a file, which are to have this id and count; a count of 0 is no part's
abbrev pub parts_joined : ℕ → ℕ → List (List ℕ) → Result (List ℕ) ℕ
parts_joined id count boxes = joined id count 0 (max 1 count) boxes

-- box 0 says the id and the count
unfoldable pub join : List (List ℕ) → Result (List ℕ) ℕ
join [] = Err 0
join (box ∷ boxes) = parts_joined (id_in box) (count_in box) (box ∷ boxes)

-- a call that joined boxes left the file, or told the missing one
abbrev pub Joins : Result (List ℕ) ℕ → Result (Unit {0}) ℕ → List ℕ → Type 0
Joins answer result file = MatchResult result (λ _. answer ≡ Ok file) (λ i. answer ≡ Err i)
