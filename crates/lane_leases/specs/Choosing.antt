-- The lane that was found so far.
use Rattle.std.specs.Prelude.{ℕ, ◌+◌, nat_lt, if◌then◌else◌, List, [], ◌∷◌, Option, Some, None, option_map}
use Rattle.lane_gate.specs.declared.row.GateRow.{GateRow}
use Rattle.lane_leases.specs.declared.choosing.Resting.{Resting}
use Rattle.lane_leases.specs.Resting.{rested}

-- the one that was found, or this one where it rests, and longer
abbrev pub longer_of : Option Resting → ℕ → Option ℕ → Option Resting
longer_of best lane None = best
longer_of None lane (Some since) = Some (record { lane = lane; since = since })
longer_of (Some resting) lane (Some since) =
    if nat_lt since resting.since then Some (record { lane = lane; since = since }) else Some resting

-- the one that has rested longest, of this one and of lanes from this number on
abbrev pub longest_from : Option Resting → ℕ → List GateRow → Option Resting
longest_from best lane [] = best
longest_from best lane (row ∷ rows) = longest_from (longer_of best lane (rested row)) (lane + 1) rows

-- the lane that has rested longest
abbrev pub longest_of : List GateRow → Option ℕ
longest_of rows = option_map (λ resting. resting.lane) (longest_from None 0 rows)
