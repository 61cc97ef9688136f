-- The boxes of a server, in the order in which they were registered.
use Rattle.std.specs.Prelude.{ℕ, ◌≢◌, nat_le, ◌==◌, if◌then◌else◌, List, [], ◌∷◌, ◌++◌, length, map, position}
use Rattle.std.specs.Prelude.{Option, Some, None, Result, Ok, Err, AllPairs}
use Rattle.box_registry.specs.declared.fault.RegFault.{RegFault}
use Rattle.box_registry.specs.declared.fault.RegFault.TheVariants.{Taken, Full}

-- a box: its address, and its key at this server
pub record Box : Type 0 where
  pub address : ℕ
  pub key : List ℕ

-- at most so many boxes, and those that stand
pub record Boxes : Type 0 where
  pub limit : ℕ
  pub boxes : List Box

abbrev pub addresses_of : List Box → List ℕ
addresses_of boxes = map (λ box. box.address) boxes

-- no two of the addresses are the same
abbrev pub Differ : List ℕ → Type 0
Differ addresses = AllPairs (λ a b. a ≢ b) addresses

-- the box at which an address stands
abbrev pub place_of : ℕ → List Box → Option ℕ
place_of address boxes = position (λ other. other == address) (addresses_of boxes)

-- What registering an address answers: the box at which it stands, else that no more boxes fit,
-- else the next box.
abbrev pub answer_at : ℕ → ℕ → Option ℕ → Result ℕ RegFault
answer_at limit count (Some box) = Err (Taken box)
answer_at limit count None = if nat_le limit count then Err (Full limit) else Ok count

abbrev pub answer_to : Boxes → ℕ → Result ℕ RegFault
answer_to r address = answer_at r.limit (length r.boxes) (place_of address r.boxes)

-- one box more
abbrev pub with_box : Boxes → ℕ → List ℕ → Boxes
with_box r address key =
    record { limit = r.limit; boxes = r.boxes ++ record { address = address; key = key } ∷ [] }
