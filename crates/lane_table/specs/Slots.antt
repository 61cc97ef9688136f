-- The lanes, read from the slots and the blocks that hold them.
use Rattle.std.specs.Prelude.{All, ◌≡◌, ◌<◌, ◌≤◌, ◌^◌, ℕ, List, [], ◌∷◌, length, take}
use Rattle.block_region.specs.Region.{Blocks}
use Rattle.lane_table.specs.declared.slot.Slot.{Slot}
use Rattle.lane_table.specs.Table.{Lane}

abbrev pub lane_in : Slot → List ℕ → Lane
lane_in slot block = record { row = slot.row; reply = take slot.length block }

-- lane by lane, as far as both go
abbrev pub lanes_in : List Slot → List (List ℕ) → List Lane
lanes_in [] blocks = []
lanes_in (slot ∷ slots) [] = []
lanes_in (slot ∷ slots) (block ∷ blocks) = lane_in slot block ∷ lanes_in slots blocks

-- a block for each slot, with room for its reply
pub record AreKept (slots : List Slot) (replies : Blocks) : Type 0 where
  pub same : length replies.blocks ≡ length slots
  pub few : length slots < 2 ^ 16
  pub short : All (λ slot. slot.length ≤ replies.size) slots
