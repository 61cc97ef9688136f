-- One server's boxes as a caller sees them.
use Rattle.std.specs.Prelude.{◌≡◌, ℕ, ◌+◌, ◌≤◌, Bool, List, [], ◌∷◌, Option, Some, None}
use Rattle.std.specs.Prelude.{length, map, replicate, slice_get, take}
use Rattle.express_words.specs.Limits.{levels_len}
use Rattle.dpf_rules.specs.Walk.{leaf_bytes, leaf_of}
use Rattle.express_words.specs.declared.audit.Openings.{Openings}
use Rattle.audit_rules.specs.Values.{Write, opens}
use Rattle.step_rules.specs.Boxes.{Box, added, addresses_of, with_read, with_write}
use Rattle.server_boxes.specs.declared.room.Begun.{Begun}
use Rattle.server_boxes.specs.declared.room.Proof.{Proof}
use Rattle.server_boxes.specs.declared.room.Room.{Room}

-- the bytes of a share, at most so many boxes, and those that stand
pub record Holdings : Type 0 where
  pub width : ℕ
  pub limit : ℕ
  pub boxes : List Box

abbrev pub with_boxes : Holdings → List Box → Holdings
with_boxes h boxes = record { width = h.width; limit = h.limit; boxes = boxes }

-- the first boxes, as many as there are leaves, get the write bytes of their leaves, whatever these are; a
-- retired box gets nothing
abbrev pub with_leaves : List ℕ → List ℕ → List Box → List Box
with_leaves part [] boxes = boxes
with_leaves part (leaf ∷ leaves) [] = []
with_leaves part (leaf ∷ leaves) (box ∷ boxes) =
    added (λ address. leaf_bytes part leaf) box ∷ with_leaves part leaves boxes

-- the same addresses in the same order, so the same count: shares alone may have changed, and boxes may be
-- retired
pub record HasSameAddresses (old new : Holdings) : Type 0 where
  pub width : new.width ≡ old.width
  pub limit : new.limit ≡ old.limit
  pub count : length new.boxes ≡ length old.boxes
  pub addresses : addresses_of new.boxes ≡ addresses_of old.boxes

-- a box that isn't there has zeros
abbrev pub share_of : ℕ → Option Box → List ℕ
share_of width (Some found) = found.share
share_of width None = replicate width 0

abbrev pub share_at : Holdings → ℕ → List ℕ
share_at h number = share_of h.width (slice_get h.boxes number)

-- once the box of this number, which stands there, was read or retired
abbrev pub after_read : Holdings → (stays : Bool) → (number : ℕ) → Box → Holdings
after_read h stays number found = with_boxes h (with_read h.width stays number found h.boxes)

-- a write that has begun, with its public part
abbrev pub write_in : Begun → List ℕ → Write
write_in b part = record { root = b.root; part = part; count = b.count; ckey = b.ckey }

-- ---- room for a write

-- room for a public part of this width, and for so many leaves
pub record IsRoom (width limit : ℕ) (room : Room) : Type 0 where
  pub part : length room.part.items ≡ levels_len + width
  pub leaves : length room.leaves.items ≡ limit

-- ---- a write over the boxes that it counts

-- a server's leaves of the write with this public part
abbrev pub leaves_of : (server : ℕ) → Begun → (part addresses : List ℕ) → List ℕ
leaves_of server b part addresses = map (leaf_of part server b.root) (take b.count addresses)

-- the room has the leaves of a write at the boxes that it counts, as a server evaluates them
abbrev pub AreLeaves : (server : ℕ) → Begun → Room → (addresses : List ℕ) → Type 0
AreLeaves server b room addresses =
    take b.count room.leaves.items ≡ leaves_of server b room.part.items addresses

-- the boxes that a write counts are there, and the room has a server's leaves of it
pub record HasLeaves (server : ℕ) (b : Begun) (room : Room) (addresses : List ℕ) : Type 0 where
  pub count : b.count ≤ length addresses
  pub leaves : AreLeaves server b room addresses

-- what a server opens of its share of the proof of the write in this room
abbrev pub openings_of : (server : ℕ) → Begun → Proof → Room → (addresses : List ℕ) → Openings
openings_of server b proof room addresses =
    opens server (write_in b room.part.items) (take b.count addresses) proof.share proof.sigma

-- where the room has a server's leaves of the write, that server adds the write to its boxes
abbrev pub AddsWrite : (server : ℕ) → Begun → Room → (old new : Holdings) → Type 0
AddsWrite server b room old new =
    AreLeaves server b room (addresses_of old.boxes) →
    new ≡ with_boxes old (with_write room.part.items server b.root b.count old.boxes)
