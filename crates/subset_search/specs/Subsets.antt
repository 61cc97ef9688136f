-- Boxes that are added to another, byte by byte in GF(2)^8 (exclusive or).
use Rattle.std.specs.Prelude.{◌≢◌, ℕ, zero, suc, List, [], ◌∷◌, Bool, false, if◌then◌else◌, map}
use Rattle.std.specs.Prelude.{slice_index_or, All, AllPairs}
use Rattle.std.specs.List.{Contains}
use Rattle.express_words.specs.Bytes.{xor_bytes}

-- a box with others added
abbrev pub added : List ℕ → List (List ℕ) → List ℕ
added bytes [] = bytes
added bytes (box ∷ boxes) = added (xor_bytes bytes box) boxes

-- some of the boxes, none of them twice
pub record IsSubset (part boxes : List (List ℕ)) : Type 0 where
  pub within : All (Contains boxes) part
  pub once : AllPairs (λ x y. x ≢ y) part

-- no subset of the boxes, added, gives what is sought
abbrev pub HasNone : (List ℕ → Type 0) → List ℕ → List (List ℕ) → Type 0
HasNone IsSought bytes boxes = (part : List (List ℕ)) → IsSubset part boxes → IsSought (added bytes part) → ⊥

-- those of the first n boxes that are chosen, the last first
abbrev pub chosen_below : ℕ → List (List ℕ) → List Bool → List (List ℕ)
chosen_below zero boxes chosen = []
chosen_below (suc n) boxes chosen =
    if slice_index_or chosen n false
    then slice_index_or boxes n [] ∷ chosen_below n boxes chosen
    else chosen_below n boxes chosen

-- the boxes at these indices
abbrev pub boxes_at : List (List ℕ) → List ℕ → List (List ℕ)
boxes_at all indices = map (λ i. slice_index_or all i []) indices
