-- The boxes that a map from addresses to keys holds, in the order of its entries.
use Rattle.std.specs.Prelude.{◌≡◌, ℕ, ◌<◌, ◌≤◌, ◌^◌, List, length, map}
use Rattle.box_registry.specs.Boxes.{Box, Differ}

abbrev pub box_of_entry : ℕ × List ℕ → Box
box_of_entry entry = record { address = entry.0; key = entry.1 }

abbrev pub boxes_of_entries : List (ℕ × List ℕ) → List Box
boxes_of_entries entries = map box_of_entry entries

-- the addresses are the map's keys in order, no address twice, and no more of them than the limit
pub record AreKeys (limit : ℕ) (addresses keys : List ℕ) : Type 0 where
  pub same : addresses ≡ keys
  pub within : length addresses ≤ limit
  pub countable : limit < 2 ^ 32
  pub differ : Differ addresses
