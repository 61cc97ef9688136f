-- An owner's own boxes are his: no read or retire of a box that a client was told of is refused as of none.
use Rattle.std.specs.Prelude.{◌≡◌, ℕ, ◌≤◌, nat_eq, ◌&&◌, Bool, true, false, List, filter, length, take}
use Rattle.std.specs.Prelude.{Some, slice_get}
use Rattle.express_words.specs.declared.settings.Settings.{Settings}
use Rattle.step_rules.specs.Client as client
use Rattle.run_rules.specs.History.{frame_run}
use Rattle.run_rules.specs.Letters.{Ended, FrameWorld, NoOwnBox, Outcome, Told}
use Rattle.run_rules.specs.Run.{Event}

abbrev pub is_registered : Told → Bool
is_registered (Ended (client.Registered n)) = true
is_registered told = false

-- the boxes that a client was told of
abbrev pub boxes_told : ℕ → List Outcome → ℕ
boxes_told c outcomes = length (filter (λ o. nat_eq o.client c && is_registered o.told) outcomes)

-- Where a client is told that it has no box of a number, it was told of no more boxes than that before: own
-- boxes count from 0.
pub record OwnersAreHeeded (f : FrameWorld) : Type 0 where
  pub heeded : (k own : ℕ) (y : Outcome) → slice_get f.outcomes k ≡ Some y → y.told ≡ NoOwnBox own
      → boxes_told y.client (take k f.outcomes) ≤ own
  -- and at the end it has all boxes that it was told of
  pub has : (c : ℕ) → length (f.clients c).owned ≡ boxes_told c f.outcomes

-- in the run of every schedule, whatever bytes come from outside
abbrev pub OwnersKeepTheirs : Type 0
OwnersKeepTheirs = (settings : Settings) (seed : List ℕ) (events : List Event)
    → OwnersAreHeeded (frame_run settings seed events)
