-- What the leader answers, and what its calls give and write.
use Rattle.std.specs.Prelude.{◌≡◌, ℕ, List, [], length, take, drop, slice_get, Option, Some, None}
use Rattle.dpf_rules.specs.Evaluation.{prefix_count}
use Rattle.frame_rules.specs.Frames as frame
use Rattle.frame_rules.specs.Frames.{PlainFrame, PlainBody}
use Rattle.frame_rules.specs.Spelling.{spelling}
use Rattle.step_rules.specs.Leader as steps
use Rattle.step_rules.specs.LeaderClients.{counted}
use Rattle.leader_core.specs.declared.stores.LeaderStores.{LeaderStores}
use Rattle.leader_core.specs.State.{leader_in, AreStores}
use Rattle.leader_core.specs.declared.turn.Turn.{Turn}
use Rattle.leader_core.specs.declared.turn.Turn.TheVariants as turn
use Rattle.leader_core.specs.declared.turn.Ack.{Ack}
use Rattle.leader_core.specs.declared.turn.Ack.TheVariants as ack

-- an answer to a client, by its kind and its length
abbrev pub turned : steps.Answer → Turn
turned (steps.Reply reply) = turn.Reply (length (spelling reply))
turned (steps.Link number command) = turn.Link number (length (spelling command))
turned (steps.StillWaiting number) = turn.Waiting number

-- what a reply of the helper comes to, by its kind and its length
abbrev pub acked : steps.Ack → Ack
acked (steps.ToLane lane reply) = ack.Reply lane (length (spelling reply))
acked (steps.Settles number command) = ack.Link number (length (spelling command))
acked steps.Ignored = ack.Ignored

-- the bytes of that
abbrev pub acked_bytes : steps.Ack → List ℕ
acked_bytes (steps.ToLane lane reply) = spelling reply
acked_bytes (steps.Settles number command) = spelling command
acked_bytes steps.Ignored = []

-- the bytes stand at the front, and the rest is what it was
pub record WritesFront (bytes old new : List ℕ) : Type 0 where
  pub front : take (length bytes) new ≡ bytes
  pub rest : drop (length bytes) new ≡ drop (length bytes) old

pub record IsTold (answer : steps.Answer) (t : Turn) (old new : List ℕ) : Type 0 where
  pub turn : t ≡ turned answer
  pub bytes : WritesFront (steps.written answer) old new

-- the leader is what the turn leaves, and what was given and written is its answer
pub record DoesTurn (t : steps.Turn) (c : LeaderStores) (given : Turn) (old new : List ℕ) : Type 0 where
  pub leader : leader_in c ≡ t.leader
  pub told : IsTold t.answer given old new
  pub is : AreStores c

pub record IsAcked (said : steps.Ack) (t : Ack) (old new : List ℕ) : Type 0 where
  pub ack : t ≡ acked said
  pub bytes : WritesFront (acked_bytes said) old new

pub record DoesAck (t : steps.AckTurn) (c : LeaderStores) (given : Ack) (old new : List ℕ) : Type 0 where
  pub leader : leader_in c ≡ t.leader
  pub acked : IsAcked t.ack given old new
  pub is : AreStores c

-- ---- how many nodes a client's frame expands: where an audit is issued, those of the addresses that its
-- write counts

abbrev pub stage_steps : steps.Leader → steps.Stage → ℕ
stage_steps a (steps.Challenged w kept) = prefix_count (counted a w)
stage_steps a stage = 0

abbrev pub command_steps : steps.Leader → PlainFrame → PlainBody → ℕ
command_steps a c (frame.LinkAudit sigma opened) = stage_steps a (steps.row_at a c.lane).stage
command_steps a c body = 0

abbrev pub turn_steps : steps.Leader → steps.Answer → ℕ
turn_steps a (steps.Link number command) = command_steps a command command.body
turn_steps a answer = 0

abbrev pub ExpandsNothing : steps.Leader → steps.Turn → Type 0
ExpandsNothing a t = turn_steps a t.answer ≡ 0

-- the outstanding command at a place, the oldest at 0
abbrev pub resent_at : steps.Leader → ℕ → Option PlainFrame
resent_at a place = slice_get a.outstanding place

-- how many bytes were sent again
abbrev pub sent_length : Option (ℕ × ℕ) → ℕ
sent_length (Some x) = x.1
sent_length None = 0
