-- One server's shares as a caller sees them, and what a write leaves.
use Rattle.std.specs.Prelude.{ℕ, Bool, true, if◌then◌else◌, List, [], ◌∷◌, replicate, slice_index_or}
use Rattle.std.specs.Prelude.{slice_set}
use Rattle.express_words.specs.Bytes.{xor_bytes}
use Rattle.dpf_rules.specs.Walk.{leaf_bytes}

-- a box's share, and whether the box is live
pub record Share : Type 0 where
  pub bytes : List ℕ
  pub live : Bool

-- the shares by box, each as long as the width
pub record Shares : Type 0 where
  pub width : ℕ
  pub boxes : List Share

abbrev pub shares_of : ℕ → List Share → Shares
shares_of width boxes = record { width = width; boxes = boxes }

-- a live box with zeros
abbrev pub empty_share : ℕ → Share
empty_share width = record { bytes = replicate width 0; live = true }

abbrev pub share_at : List Share → ℕ → Share
share_at boxes box = slice_index_or boxes box (empty_share 0)

-- a retired box gets nothing
abbrev pub share_with : List ℕ → Share → Share
share_with bytes share =
    record { bytes = if share.live then xor_bytes share.bytes bytes else share.bytes; live = share.live }

-- the first boxes, as many as there are leaves, get the write bytes of their leaves
abbrev pub shares_with : List ℕ → List ℕ → List Share → List Share
shares_with part [] boxes = boxes
shares_with part (leaf ∷ leaves) [] = []
shares_with part (leaf ∷ leaves) (share ∷ boxes) =
    share_with (leaf_bytes part leaf) share ∷ shares_with part leaves boxes

-- the share of a box is cleared, and the box stays live or not
abbrev pub with_cleared : Shares → ℕ → Bool → Shares
with_cleared s box live =
    shares_of s.width (slice_set s.boxes box (record { bytes = replicate s.width 0; live = live }))
