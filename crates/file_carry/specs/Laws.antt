-- What ties cutting to joining.
use Rattle.std.specs.Prelude.{◌≡◌, ℕ, ◌-◌, ◌^◌, ◌<◌, ◌≤◌, ◌⊎◌, ◌++◌, All, List, [], length, slice_index_or}
use Rattle.std.specs.Prelude.{take, false, Ok, Err}
use Rattle.file_carry.specs.Parts.{IsPartWidth, count_of, cut}
use Rattle.file_carry.specs.Boxes.{id_in, count_in, is_part, join}

-- a file that can be cut with this id at this width
abbrev pub CanBeCut : List ℕ → ℕ → ℕ → Type 0
CanBeCut file id width = (id < 2 ^ 64) × IsPartWidth width × (count_of (length file) (width - 16) ≤ 4096)

-- the parts of a file join to the file, whatever boxes come behind them
abbrev pub CutFilesJoin : Type 0
CutFilesJoin =
    (file : List ℕ) (id width : ℕ) (more : List (List ℕ)) → CanBeCut file id width →
    join (cut file id width ++ more) ≡ Ok file

-- boxes of this width, each byte below 256
abbrev pub AreBoxes : ℕ → List (List ℕ) → Type 0
AreBoxes width boxes = All (λ box. (length box ≡ width) × All (λ b. b < 256) box) boxes

-- the boxes begin with the parts of this file
abbrev pub BeginWithACut : List (List ℕ) → List ℕ → ℕ → Type 0
BeginWithACut boxes file width =
    (id : ℕ) × (id < 2 ^ 64) × (take (count_of (length file) (width - 16)) boxes ≡ cut file id width)

-- boxes that join to a file begin with its parts, so that each part has one spelling
abbrev pub JoinedFilesAreCut : Type 0
JoinedFilesAreCut =
    (boxes : List (List ℕ)) (file : List ℕ) (width : ℕ) → IsPartWidth width → AreBoxes width boxes →
    join boxes ≡ Ok file → BeginWithACut boxes file width

abbrev pub box_at : List (List ℕ) → ℕ → List ℕ
box_at boxes index = slice_index_or boxes index []

-- the box isn't there, or it isn't the part of its index with box 0's id and count
abbrev pub IsMissing : List (List ℕ) → ℕ → Type 0
IsMissing boxes index =
    let first = box_at boxes 0 in
    (length boxes ≤ index) ⊎ (is_part (id_in first) (count_in first) index (box_at boxes index) ≡ false)

-- the box that is named is missing, and none before it is
abbrev pub FirstMissingIsNamed : Type 0
FirstMissingIsNamed =
    (boxes : List (List ℕ)) (index : ℕ) → join boxes ≡ Err index →
    IsMissing boxes index × ((k : ℕ) → k < index → IsMissing boxes k → ⊥)
