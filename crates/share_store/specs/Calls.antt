-- Lists of calls of a share store, and what they leave of one box's share.
use Rattle.std.specs.Prelude.{◌≡◌, ℕ, ◌<◌, ◌==◌, ◌||◌, Bool, false, not, if◌then◌else◌, List, [], ◌∷◌, ◌++◌}
use Rattle.std.specs.Prelude.{Option, Some, None, fold, replicate, slice_get}
use Rattle.express_words.specs.Bytes.{xor_bytes}
use Rattle.dpf_rules.specs.Walk.{leaf_bytes}
use Rattle.share_store.specs.Shares.{Shares, empty_share, share_at, shares_of, shares_with, with_cleared}

-- a write with these leaves, at the first boxes, is added; a share is taken; a box is retired
pub data Call : Type 0 where
  Adds : List ℕ → List ℕ → Call
  Takes : ℕ → Call
  Retires : ℕ → Call

abbrev pub called : Shares → Call → Shares
called s (Adds part leaves) = shares_of s.width (shares_with part leaves s.boxes)
called s (Takes box) = with_cleared s box (share_at s.boxes box).live
called s (Retires box) = with_cleared s box false

-- the shares after the calls, the first of them first
abbrev pub after : Shares → List Call → Shares
after s [] = s
after s (call ∷ calls) = after (called s call) calls

-- shares of so many boxes, all zero and live
abbrev pub new_shares : ℕ → ℕ → Shares
new_shares count width = shares_of width (replicate count (empty_share width))

-- whether one of the calls retires the box
abbrev pub is_retired : ℕ → List Call → Bool
is_retired box [] = false
is_retired box (Adds part leaves ∷ calls) = is_retired box calls
is_retired box (Takes at ∷ calls) = is_retired box calls
is_retired box (Retires at ∷ calls) = (at == box) || is_retired box calls

-- the write bytes for a box whose leaf this is
abbrev pub bytes_for : List ℕ → Option ℕ → List (List ℕ)
bytes_for part None = []
bytes_for part (Some leaf) = leaf_bytes part leaf ∷ []

-- the write bytes for the box since it was last taken, with these before; none where it is retired
abbrev pub writes_since : ℕ → List (List ℕ) → List Call → List (List ℕ)
writes_since box since [] = since
writes_since box since (Adds part leaves ∷ calls) =
    writes_since box (since ++ bytes_for part (slice_get leaves box)) calls
writes_since box since (Takes at ∷ calls) = writes_since box (if at == box then [] else since) calls
writes_since box since (Retires at ∷ calls) = if at == box then [] else writes_since box since calls

-- the sum of these bytes
abbrev pub sum_of : ℕ → List (List ℕ) → List ℕ
sum_of width all = fold xor_bytes (replicate width 0) all

-- after every list of calls the share of a box is the sum of the write bytes since it was last taken, and the
-- box is live unless it was retired; then its share is zeros
abbrev pub SharesAreSums : Type 0
SharesAreSums =
    (count width : ℕ) (calls : List Call) (box : ℕ) → box < count →
    share_at (after (new_shares count width) calls).boxes box
    ≡ record { bytes = sum_of width (writes_since box [] calls); live = not (is_retired box calls) }
