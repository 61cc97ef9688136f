-- The boxes that two arrays hold, one of addresses and one of keys.
use Rattle.std.specs.Prelude.{◌≡◌, ℕ, ◌≤◌, List, [], ◌∷◌, length}
use Rattle.dpf_eval.specs.Listing.{Listing}
use Rattle.box_registry.specs.Boxes.{Box, Differ}

-- box by box, as far as both go
abbrev pub boxes_of_arrays : List ℕ → List (List ℕ) → List Box
boxes_of_arrays [] keys = []
boxes_of_arrays (address ∷ addresses) [] = []
boxes_of_arrays (address ∷ addresses) (key ∷ keys) =
    record { address = address; key = key } ∷ boxes_of_arrays addresses keys

-- a key for each address, no address twice, and room for every key to come
pub record AreArrays (limit : ℕ) (frontier : Listing) (keys : List (List ℕ)) (keys_room : ℕ) : Type 0 where
  pub limit_same : frontier.limit ≡ limit
  pub as_many : length keys ≡ length frontier.addresses
  pub within : length frontier.addresses ≤ limit
  pub differ : Differ frontier.addresses
  pub keys_fit : limit ≤ keys_room
