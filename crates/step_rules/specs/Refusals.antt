-- What a step that refuses leaves of the server that takes it: boxes,
-- shares and the other lanes are as before.
use Rattle.std.specs.Prelude.{◌≡◌, ◌≢◌, ℕ, List}
use Rattle.frame_rules.specs.Frames as frame
use Rattle.frame_rules.specs.Frames.{PlainBody}
use Rattle.step_rules.specs.Helper as helper
use Rattle.step_rules.specs.Helper.{Helper}
use Rattle.step_rules.specs.HelperClients as helper_clients
use Rattle.step_rules.specs.HelperCommands.{on_link_bytes}
use Rattle.step_rules.specs.Leader as leader
use Rattle.step_rules.specs.Leader.{Leader}
use Rattle.step_rules.specs.LeaderClients as leader_clients
use Rattle.step_rules.specs.LeaderReplies.{on_reply_bytes}

-- a refusal to a client, or to the leader: of a command, or of a write that isn't accepted
abbrev pub IsRefusal : PlainBody → Type 0
IsRefusal (frame.Refused why) = Unit {0}
IsRefusal (frame.LinkReply (frame.ReplyRefused why)) = Unit {0}
IsRefusal (frame.LinkReply frame.ReplyRejected) = Unit {0}
IsRefusal body = ⊥

-- ---- the helper

-- only the row of this lane may differ
pub record HelperButLane (lane : ℕ) (before after : helper.Server) : Type 0 where
  pub settings : after.settings ≡ before.settings
  pub boxes : after.boxes ≡ before.boxes
  pub lanes : (other : ℕ) → other ≢ lane → helper.row_at after other ≡ helper.row_at before other
  pub draws : after.draws ≡ before.draws

-- by what is answered to the leader: a command that is carried out and refused leaves all but its lane's row,
-- the link aside; what isn't carried out now, as a command that comes again, changes nothing
abbrev pub AnswerLeaves : helper.Answer → Helper → Helper → Type 0
AnswerLeaves (helper.Carried reply) before after =
    IsRefusal reply.body → HelperButLane reply.lane before.server after.server
AnswerLeaves answer before after = after ≡ before

-- a client's frame that is refused changes nothing
abbrev pub HelperRefusesClients : Type 0
HelperRefusesClients =
    (h : Helper) (bytes : List ℕ) → IsRefusal (helper_clients.on_client h bytes).reply.body →
    (helper_clients.on_client h bytes).helper ≡ h

abbrev pub HelperRefusesCommands : Type 0
HelperRefusesCommands =
    (h : Helper) (bytes : List ℕ)
    → AnswerLeaves (on_link_bytes h bytes).answer h (on_link_bytes h bytes).helper

-- ---- the leader

-- only the row of this lane may differ, and the commands that wait for replies
pub record LeaderButLane (lane : ℕ) (before after : Leader) : Type 0 where
  pub settings : after.settings ≡ before.settings
  pub boxes : after.boxes ≡ before.boxes
  pub lanes : (other : ℕ) → other ≢ lane → leader.row_at after other ≡ leader.row_at before other
  pub draws : after.draws ≡ before.draws
  pub next : after.next ≡ before.next

-- by what is answered to a client: a reply at once, a refusal or a kept answer, changes nothing; no more does
-- a frame whose command is outstanding
abbrev pub TurnLeaves : leader.Answer → Leader → Leader → Type 0
TurnLeaves (leader.Link number command) before after = Unit {0}
TurnLeaves answer before after = after ≡ before

-- by what a reply of the helper comes to: where the lane's request is refused, all but its row is left, the
-- link aside; what doesn't fit changes nothing
abbrev pub AckLeaves : leader.Ack → Leader → Leader → Type 0
AckLeaves (leader.ToLane lane reply) before after = IsRefusal reply.body → LeaderButLane lane before after
AckLeaves (leader.Settles number command) before after = Unit {0}
AckLeaves leader.Ignored before after = after ≡ before

abbrev pub LeaderRefusesClients : Type 0
LeaderRefusesClients =
    (a : Leader) (bytes : List ℕ) →
    TurnLeaves (leader_clients.on_client a bytes).answer a (leader_clients.on_client a bytes).leader

abbrev pub LeaderRefusesRequests : Type 0
LeaderRefusesRequests =
    (a : Leader) (bytes : List ℕ) → AckLeaves (on_reply_bytes a bytes).ack a (on_reply_bytes a bytes).leader
