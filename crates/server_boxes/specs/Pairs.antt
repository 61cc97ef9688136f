-- The boxes that a registry and the shares hold together.
use Rattle.std.specs.Prelude.{◌≡◌, ◌-◌, ◌≤◌, List, [], ◌∷◌, length, drop, replicate}
use Rattle.share_store.specs.Shares.{Share, Shares, empty_share}
use Rattle.box_registry.specs.Boxes.{Boxes}
use Rattle.box_registry.specs.Boxes as registry
use Rattle.step_rules.specs.Boxes.{Box}
use Rattle.server_boxes.specs.Held.{Holdings}

abbrev pub box_in : registry.Box → Share → Box
box_in b s = record { address = b.address; key = b.key; share = s.bytes; live = s.live }

-- box by box, as far as both go
abbrev pub boxes_in : List registry.Box → List Share → List Box
boxes_in [] shares = []
boxes_in (b ∷ boxes) [] = []
boxes_in (b ∷ boxes) (s ∷ shares) = box_in b s ∷ boxes_in boxes shares

abbrev pub held_in : Boxes → Shares → Holdings
held_in r s = record { width = s.width; limit = r.limit; boxes = boxes_in r.boxes s.boxes }

-- as many shares as boxes may come, and a box that isn't registered is live and has zeros
pub record ArePairs (r : Boxes) (s : Shares) : Type 0 where
  pub within : length r.boxes ≤ r.limit
  pub room : length s.boxes ≡ r.limit
  pub unused : drop (length r.boxes) s.boxes ≡ replicate (r.limit - length r.boxes) (empty_share s.width)
