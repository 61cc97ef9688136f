-- The logs of two servers behind their gates, and the run that they are: a frame that a gate doesn't hand on
-- is one that was lost, and a record that is no frame changes no core.
use Rattle.std.specs.Prelude.{◌≡◌, ◌==◌, ℕ, ◌+◌, ◌*◌, ◌≤◌, Bool, true, false, Option, Some, None}
use Rattle.std.specs.Prelude.{List, [], ◌∷◌, ◌++◌, length, if◌then◌else◌}
use Rattle.frame_rules.specs.Whole.{whole}
use Rattle.run_rules.specs.Acts.{AreFitting}
use Rattle.run_rules.specs.Run.{Event, run}
use Rattle.node_restart.specs.declared.frames.Sender.TheVariants.{Client, Peer}
use Rattle.node_restart.specs.declared.server.Core.{Core}
use Rattle.node_restart.specs.declared.server.Core.TheVariants.{Lead, Help}
use Rattle.node_restart.specs.Frames.{Handed, handed}
use Rattle.node_restart.specs.Steps.{step_of}
use Rattle.log_laws.specs.Journals.{AreForeign, Both, EndsAt, IsOf, for_other, opened_with}
use Rattle.gated_servers.specs.declared.helper.GatedHelper.{GatedHelper}
use Rattle.gated_servers.specs.declared.leader.GatedLeader.{GatedLeader}
use Rattle.gated_servers.specs.declared.opening.GatedOpening.{GatedOpening}
use Rattle.gated_servers.specs.Frames.{is_frame, passes_link, request_open}
use Rattle.gated_servers.specs.Helpers.{helper_after, opened_gated}
use Rattle.gated_servers.specs.Leaders.{leader_after, opened_leading}
use Rattle.gated_servers.specs.Runs.{frames_in, helper_behind, leader_behind}

-- ---- records of two logs, in one order

-- a server's log takes a record
pub data Logging : Type 0 where
  OfLeader : (bytes : List ℕ) → Logging
  OfHelper : (bytes : List ℕ) → Logging

-- the records of the leader's log, and those of the helper's
abbrev pub leaders : List Logging → List (List ℕ)
leaders [] = []
leaders (OfLeader bytes ∷ order) = bytes ∷ leaders order
leaders (OfHelper bytes ∷ order) = leaders order

abbrev pub helpers : List Logging → List (List ℕ)
helpers [] = []
helpers (OfLeader bytes ∷ order) = helpers order
helpers (OfHelper bytes ∷ order) = bytes ∷ helpers order

-- ---- what a gate hands on

abbrev pub frame_if : Bool → Handed → Option Handed
frame_if true h = Some h
frame_if false h = None

-- the frame of a record that the leader's gate hands to its core: a client's where somebody may still send
-- frames of its lane and serial, and each frame of the helper
abbrev pub leader_hands : GatedLeader → List ℕ → Option Handed
leader_hands s [] = None
leader_hands s (tag ∷ frame) =
    if tag == 1 then frame_if (request_open s.leases.gate (whole frame)) (handed Client frame) else
    (if tag == 2 then frame_if (is_frame (whole frame)) (handed Peer frame) else None)

-- likewise the helper's: of the leader's frames the commands, but no audit at the point 1 or 2
abbrev pub helper_hands : GatedHelper → List ℕ → Option Handed
helper_hands s [] = None
helper_hands s (tag ∷ frame) =
    if tag == 1 then frame_if (request_open s.gate (whole frame)) (handed Client frame) else
    (if tag == 2 then frame_if (passes_link (whole frame)) (handed Peer frame) else None)

-- ---- the link between both

-- both gated servers, and all commands and replies that their cores have written for each other
pub record GatedPair : Type 0 where
  pub leader : GatedLeader
  pub helper : GatedHelper
  pub commands : List (List ℕ)
  pub replies : List (List ℕ)

-- the same without their gates
abbrev pub cores : GatedPair → Both
cores p = record {
  leader = Lead p.leader.leader;
  helper = Help p.helper.helper;
  commands = p.commands;
  replies = p.replies;
}

-- what a core writes for the other server where it is handed this frame
abbrev pub written_for_other : Core → Option Handed → List (List ℕ)
written_for_other core None = []
written_for_other core (Some h) = for_other (step_of core h.sender h.frame)

-- both servers behind a record
abbrev pub behind : GatedPair → Logging → GatedPair
behind p (OfLeader bytes) = record p {
  leader = leader_after p.leader bytes;
  commands = p.commands ++ written_for_other (Lead p.leader.leader) (leader_hands p.leader bytes);
}
behind p (OfHelper bytes) = record p {
  helper = helper_after p.helper bytes;
  replies = p.replies ++ written_for_other (Help p.helper.helper) (helper_hands p.helper bytes);
}

-- a frame of the other server that is handed on is one of these, which it has written; a client's may be any
abbrev pub IsOfOther : Option Handed → List (List ℕ) → Type 0
IsOfOther None written = Unit {0}
IsOfOther (Some h) written = IsOf h.sender written h.frame

abbrev pub MayBeLogged : GatedPair → Logging → Type 0
MayBeLogged p (OfLeader bytes) = IsOfOther (leader_hands p.leader bytes) p.replies
MayBeLogged p (OfHelper bytes) = IsOfOther (helper_hands p.helper bytes) p.commands

abbrev pub MayAllBeLogged : GatedPair → List Logging → Type 0
MayAllBeLogged p [] = Unit {0}
MayAllBeLogged p (r ∷ order) = MayBeLogged p r × MayAllBeLogged (behind p r) order

-- ---- two logs

-- both servers of these openings, before the first record behind these
abbrev pub pair_opened : (leader helper : GatedOpening) → GatedPair
pair_opened leader helper = record {
  leader = opened_leading leader;
  helper = opened_gated helper;
  commands = [];
  replies = [];
}

-- Of a leader's log and a helper's, each behind its opening, the frames of the link are each other's: in some
-- order of all their records the other server had written each of them before it came.
pub record AreOfOnePair (leader helper : GatedOpening) (one other : List (List ℕ)) : Type 0 where
  pub settings : helper.server.settings ≡ leader.server.settings
  pub order : List Logging
  pub leads : leaders order ≡ one
  pub helps : helpers order ≡ other
  pub link : MayAllBeLogged (pair_opened leader helper) order

-- these events end at the two cores behind the gates of the logs' servers
abbrev pub EndsAtCores : (seed : List ℕ) (leader helper : GatedOpening) (one other : List (List ℕ))
    → List Event → Type 0
EndsAtCores seed leader helper one other events =
    EndsAt (run (opened_with leader.server.settings seed leader.server.seed helper.server.seed) events)
    (Lead (leader_behind (opened_leading leader) one).leader)
    (Help (helper_behind (opened_gated helper) other).helper)

-- The run of these events over bytes ends at the two cores behind their gates. Where the logs' clients have
-- the lanes of bytes from outside, the events are those of a schedule.
pub record IsRunOfLogs (seed : List ℕ) (leader helper : GatedOpening) (one other : List (List ℕ))
    (events : List Event) : Type 0 where
  pub ends : EndsAtCores seed leader helper one other events
  pub few : length events ≤ 2 * (length one + length other)
  pub fit : (foreign : ℕ → Bool) → AreForeign foreign (frames_in one)
      → AreForeign foreign (frames_in other) → AreFitting leader.server.settings foreign events

abbrev pub GatedLogsAreARun : Type 0
GatedLogsAreARun = (seed : List ℕ) (leader helper : GatedOpening) (one other : List (List ℕ))
    → AreOfOnePair leader helper one other
    → (events : List Event) × IsRunOfLogs seed leader helper one other events
