-- Two servers' journals, and the run that they are: each frame that a server was handed is a delivery of it.
use Rattle.std.specs.Prelude.{◌≡◌, ℕ, ◌+◌, ◌*◌, ◌≤◌, Bool, true, false, List, [], ◌∷◌, ◌++◌, length, Contains}
use Rattle.express_words.specs.declared.role.Role.TheVariants as role
use Rattle.express_words.specs.declared.settings.Settings.{Settings}
use Rattle.frame_rules.specs.Whole.{whole}
use Rattle.step_rules.specs.Helper.{opened_helper}
use Rattle.step_rules.specs.Leader.{opened_leader}
use Rattle.run_rules.specs.Acts.{AreFitting, IsOutside}
use Rattle.run_rules.specs.History.{lane_from_client}
use Rattle.run_rules.specs.Letters.{FrameWorld, opened}
use Rattle.run_rules.specs.Run.{Event, run}
use Rattle.helper_core.specs.declared.helper.LinkTurn.TheVariants as link
use Rattle.leader_core.specs.declared.turn.Ack.TheVariants as ack
use Rattle.leader_core.specs.declared.turn.Turn.TheVariants as turn
use Rattle.node_restart.specs.declared.did.Did.{Did}
use Rattle.node_restart.specs.declared.did.Did.TheVariants as did
use Rattle.node_restart.specs.declared.frames.Sender.{Sender}
use Rattle.node_restart.specs.declared.frames.Sender.TheVariants.{Client, Peer}
use Rattle.node_restart.specs.declared.opening.Opening.{Opening}
use Rattle.node_restart.specs.declared.server.Core.{Core}
use Rattle.node_restart.specs.declared.server.Core.TheVariants.{Lead, Help}
use Rattle.node_restart.specs.Frames.{Handed}
use Rattle.node_restart.specs.Steps.{Step, fold, step_of}

-- ---- frames of two journals, in one order

-- a server is handed a frame
pub data Delivery : Type 0 where
  AtLeader : (frame : Handed) → Delivery
  AtHelper : (frame : Handed) → Delivery

-- the frames that the leader is handed, and those that the helper is
abbrev pub leaders : List Delivery → List Handed
leaders [] = []
leaders (AtLeader h ∷ order) = h ∷ leaders order
leaders (AtHelper h ∷ order) = leaders order

abbrev pub helpers : List Delivery → List Handed
helpers [] = []
helpers (AtLeader h ∷ order) = helpers order
helpers (AtHelper h ∷ order) = h ∷ helpers order

-- ---- the link between both

-- both servers, and all commands and replies that they have written for each other
pub record Both : Type 0 where
  pub leader : Core
  pub helper : Core
  pub commands : List (List ℕ)
  pub replies : List (List ℕ)

-- a step writes a leader's command, or a helper's reply to one
abbrev pub is_linked : Did → Bool
is_linked (did.Lead (turn.Link number length)) = true
is_linked (did.Acked (ack.Link number length)) = true
is_linked (did.Linked (link.Carried length)) = true
is_linked (did.Linked (link.Repeated length)) = true
is_linked other = false

abbrev pub if_linked : Bool → List ℕ → List (List ℕ)
if_linked true bytes = bytes ∷ []
if_linked false bytes = []

-- what a step writes for the other server
abbrev pub for_other : Step → List (List ℕ)
for_other step = if_linked (is_linked step.did) step.written

-- both servers after a delivery
abbrev pub delivered : Both → Delivery → Both
delivered b (AtLeader h) =
    let step = step_of b.leader h.sender h.frame in
    record b { leader = step.core; commands = b.commands ++ for_other step }
delivered b (AtHelper h) =
    let step = step_of b.helper h.sender h.frame in
    record b { helper = step.core; replies = b.replies ++ for_other step }

-- a frame of the other server is one of these, which it has written; a client's may be any
abbrev pub IsOf : Sender → List (List ℕ) → List ℕ → Type 0
IsOf Client written frame = Unit {0}
IsOf Peer written frame = Contains written frame

abbrev pub MayCome : Both → Delivery → Type 0
MayCome b (AtLeader h) = IsOf h.sender b.replies h.frame
MayCome b (AtHelper h) = IsOf h.sender b.commands h.frame

abbrev pub MayAllCome : Both → List Delivery → Type 0
MayAllCome b [] = Unit {0}
MayAllCome b (d ∷ order) = MayCome b d × MayAllCome (delivered b d) order

-- ---- two journals

abbrev pub leader_opening : Settings → List ℕ → Opening
leader_opening settings seed = record { role = role.Leader; settings = settings; seed = seed }

abbrev pub helper_opening : Settings → List ℕ → Opening
helper_opening settings seed = record { role = role.Helper; settings = settings; seed = seed }

-- both servers, with these seeds, before their first frame
abbrev pub both_opened : Settings → (a b : List ℕ) → Both
both_opened settings a b = record {
  leader = fold (leader_opening settings a) [];
  helper = fold (helper_opening settings b) [];
  commands = [];
  replies = [];
}

-- Of a leader's journal and a helper's, with these seeds, the frames of the link are each other's: in some
-- order of all their frames the other server had written each of them before it came.
pub record AreEachOthers (settings : Settings) (a b : List ℕ) (one other : List Handed) : Type 0 where
  pub order : List Delivery
  pub leader : leaders order ≡ one
  pub helper : helpers order ≡ other
  pub link : MayAllCome (both_opened settings a b) order

-- ---- the run

-- the state of a schedule's run before its first event, with servers of these seeds
abbrev pub opened_with : Settings → (seed a b : List ℕ) → FrameWorld
opened_with settings seed a b =
    record (opened settings seed) { leader = opened_leader settings a; helper = opened_helper settings b }

-- it ends at these two servers
pub record EndsAt (w : FrameWorld) (leader helper : Core) : Type 0 where
  pub leads : Lead w.leader ≡ leader
  pub helps : Help w.helper ≡ helper

-- a client's frame is such as may come from outside, for one of these lanes
abbrev pub IsForeign : (ℕ → Bool) → Sender → List ℕ → Type 0
IsForeign foreign Client frame = IsOutside foreign frame (lane_from_client (whole frame))
IsForeign foreign Peer frame = Unit {0}

abbrev pub AreForeign : (ℕ → Bool) → List Handed → Type 0
AreForeign foreign [] = Unit {0}
AreForeign foreign (h ∷ frames) = IsForeign foreign h.sender h.frame × AreForeign foreign frames

-- The run of these events over bytes ends at the two servers that the journals give: a frame of a client
-- comes from outside and is delivered, one of the link is delivered from the pool. Where the journals'
-- clients have the lanes of bytes from outside, the events are those of a schedule.
pub record IsRun (settings : Settings) (seed a b : List ℕ) (one other : List Handed) (events : List Event)
    : Type 0 where
  pub ends : EndsAt (run (opened_with settings seed a b) events) (fold (leader_opening settings a) one)
      (fold (helper_opening settings b) other)
  pub few : length events ≤ 2 * (length one + length other)
  pub fit : (foreign : ℕ → Bool) → AreForeign foreign one → AreForeign foreign other
      → AreFitting settings foreign events

abbrev pub LogsAreARun : Type 0
LogsAreARun = (settings : Settings) (seed a b : List ℕ) (one other : List Handed)
    → AreEachOthers settings a b one other → (events : List Event) × IsRun settings seed a b one other events
