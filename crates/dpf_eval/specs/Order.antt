-- The order in which a frontier meets its boxes.
use Rattle.std.specs.Prelude.{◌≡◌, ℕ, ◌<◌, ◌≤◌, ◌==◌, ◌^◌, List, length, slice_index, Bool, IsTrue}
use Rattle.std.specs.List.{list_any}

-- whether a box stands in a list of boxes
abbrev pub has_box : List ℕ → ℕ → Bool
has_box boxes b = list_any (λ x. b == x) boxes

-- a function gives each value from its argument; further values may follow
abbrev pub GivesEach : (ℕ → ℕ) → List ℕ → List ℕ → Type 0
GivesEach value_of arguments values =
    (k : ℕ) → k < length arguments → slice_index values k ≡ value_of (slice_index arguments k)

-- each value stands at the place of its box, where one function of boxes gives them all
abbrev pub StandAtBoxes : List ℕ → List ℕ → List ℕ → Type 0
StandAtBoxes boxes values out =
    (value_of : ℕ → ℕ) → GivesEach value_of boxes values
    → (b : ℕ) → IsTrue (has_box boxes b) → slice_index out b ≡ value_of b

-- every box stands once, by rising address
pub record IsOrder (addresses order : List ℕ) : Type 0 where
  pub as_many : length order ≡ length addresses
  pub inside : (k : ℕ) → k < length order → slice_index order k < length addresses
  pub rising : (j k : ℕ) → j < k → k < length order
      → slice_index addresses (slice_index order j) < slice_index addresses (slice_index order k)
  pub whole : (b : ℕ) → b < length addresses → IsTrue (has_box order b)

-- what a frontier keeps: room for every address to come
pub record IsSound (limit : ℕ) (addresses order : List ℕ) (addresses_room order_room scratch_room : ℕ)
    : Type 0 where
  pub ordered : IsOrder addresses order
  pub within : length addresses ≤ limit
  pub small : limit < 2 ^ 32
  pub addresses_fit : limit ≤ addresses_room
  pub order_fits : limit ≤ order_room
  pub scratch_fits : scratch_room ≡ limit
