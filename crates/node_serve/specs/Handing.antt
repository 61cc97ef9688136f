-- One frame is handed to a server: whose it is, and what its step tells.
use Rattle.std.specs.Prelude.{◌≡◌, ◌≤◌, ℕ, Bool, true, false, List, length, take, Option, Some, None, Result, Ok, Err}
use Rattle.express_words.specs.declared.refusal.Refusal.{Refusal}
use Rattle.express_words.specs.declared.role.Role.{Role}
use Rattle.express_words.specs.declared.role.Role.TheVariants.{Leader, Helper}
use Rattle.frame_rules.specs.Frames as frame
use Rattle.frame_rules.specs.Frames.{PlainFrame, PlainBody}
use Rattle.frame_rules.specs.Whole.{whole, is_command}
use Rattle.leader_core.specs.declared.turn.Turn.TheVariants as turn
use Rattle.leader_core.specs.declared.turn.Ack.TheVariants as ack
use Rattle.helper_core.specs.declared.helper.LinkTurn.TheVariants as link
use Rattle.node_restart.specs.declared.did.Did.{Did}
use Rattle.node_restart.specs.declared.did.Did.TheVariants as did
use Rattle.node_restart.specs.declared.frames.Sender.{Sender}
use Rattle.node_restart.specs.declared.frames.Sender.TheVariants.{Client, Peer}
use Rattle.node_restart.specs.declared.server.Core.{Core}
use Rattle.node_restart.specs.Steps.{Step, role_of}
use Rattle.node_serve.specs.declared.handing.Stepped.{Stepped}

-- ---- what a step tells

-- how many bytes a server told one that waits for them: a client, or at a helper the leader
abbrev pub told : Did → ℕ
told (did.Replied length) = length
told (did.Lead (turn.Reply length)) = length
told (did.Linked (link.Repeated length)) = length
told (did.Linked (link.Carried length)) = length
told (did.Acked (ack.Reply lane length)) = length
told other = 0

-- and which
abbrev pub answer_of : Step → List ℕ
answer_of step = take (told step.did) step.written

-- whether the leader ignored bytes of the helper
abbrev pub is_ignored : Did → Bool
is_ignored (did.Acked ack.Ignored) = true
is_ignored other = false

-- the server after this step, and what is told of it, with a buffer behind it
pub record Tells (step : Step) (core : Core) (t : Stepped) (out : List ℕ) : Type 0 where
  pub core_is : core ≡ step.core
  pub answer : take t.told out ≡ answer_of step
  pub within : t.told ≤ length out
  pub ignored : t.ignored ≡ is_ignored step.did

-- ---- what a connection brings

-- what a leader takes from clients
abbrev pub is_taken : PlainBody → Bool
is_taken (frame.Register address key) = true
is_taken (frame.Write root part) = true
is_taken (frame.Read box_number token) = true
is_taken (frame.Proof share) = true
is_taken (frame.Retire box_number token) = true
is_taken body = false

abbrev pub taken_if : Bool → PlainFrame → Option PlainFrame
taken_if true f = Some f
taken_if false f = None

abbrev pub taken_in : Result PlainFrame Refusal → Option PlainFrame
taken_in (Ok f) = taken_if (is_taken f.body) f
taken_in (Err why) = None

-- a leader drains its link around a client's frame that it takes, and around no other bytes
abbrev pub drained_for : Role → List ℕ → Option PlainFrame
drained_for Leader bytes = taken_in (whole bytes)
drained_for Helper bytes = None

-- a helper takes commands for its leader's; all else is a client's
abbrev pub sender_if : Bool → Sender
sender_if true = Peer
sender_if false = Client

abbrev pub sender_of : Result PlainFrame Refusal → Sender
sender_of (Ok f) = sender_if (is_command f.body)
sender_of (Err why) = Client

abbrev pub sender_at : Role → List ℕ → Sender
sender_at Leader bytes = Client
sender_at Helper bytes = sender_of (whole bytes)

abbrev pub IsHelp : Core → Type 0
IsHelp core = role_of core ≡ Helper
