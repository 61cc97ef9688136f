-- Whose answer it is: what a leader writes has the lane and serial of the frame, or of the command, that it
-- answers.
use Rattle.std.specs.Prelude.{◌≡◌, ℕ, List, [], ◌∷◌, ◌++◌, drop, Ok, Some, slice_get}
use Rattle.frame_rules.specs.Frames.{PlainFrame}
use Rattle.frame_rules.specs.Whole.{answer, whole}
use Rattle.step_rules.specs.Leader as leader
use Rattle.step_rules.specs.Leader.{Leader}
use Rattle.step_rules.specs.LeaderClients.{on_client}
use Rattle.step_rules.specs.LeaderReplies.{on_reply_bytes}

-- the command that is issued for a client's frame, behind those that are outstanding
pub record IsIssuedFor (bytes : List ℕ) (command : PlainFrame) (a after : Leader) : Type 0 where
  pub frame : PlainFrame
  pub read : whole bytes ≡ Ok frame
  pub lane : command.lane ≡ frame.lane
  pub serial : command.serial ≡ frame.serial
  pub outstanding : after.outstanding ≡ a.outstanding ++ command ∷ []

abbrev pub TurnIsOwn : leader.Answer → List ℕ → (a after : Leader) → Type 0
TurnIsOwn (leader.Link number command) bytes a after = IsIssuedFor bytes command a after
TurnIsOwn said bytes a after = after ≡ a

-- what a reply of the helper comes to: c is the oldest outstanding command, which is acknowledged
pub record IsToldFor (c : PlainFrame) (told : ℕ) (reply : PlainFrame) (a after : Leader) : Type 0 where
  pub lane : told ≡ c.lane
  pub is : reply ≡ answer c reply.body
  pub outstanding : after.outstanding ≡ drop 1 a.outstanding

pub record IsSettledFor (c command : PlainFrame) (a after : Leader) : Type 0 where
  pub lane : command.lane ≡ c.lane
  pub serial : command.serial ≡ c.serial
  pub outstanding : after.outstanding ≡ drop 1 a.outstanding ++ command ∷ []

abbrev pub AckIsOwn : leader.Ack → (a after : Leader) → Type 0
AckIsOwn (leader.ToLane lane reply) a after =
    (c : PlainFrame) × (slice_get a.outstanding 0 ≡ Some c) × IsToldFor c lane reply a after
AckIsOwn (leader.Settles number command) a after =
    (c : PlainFrame) × (slice_get a.outstanding 0 ≡ Some c) × IsSettledFor c command a after
AckIsOwn leader.Ignored a after = after ≡ a

abbrev pub TurnsAreOwn : Type 0
TurnsAreOwn = (a : Leader) (bytes : List ℕ) →
    let turn = on_client a bytes in TurnIsOwn turn.answer bytes a turn.leader

abbrev pub AcksAreOwn : Type 0
AcksAreOwn = (a : Leader) (bytes : List ℕ) →
    let turn = on_reply_bytes a bytes in AckIsOwn turn.ack a turn.leader
