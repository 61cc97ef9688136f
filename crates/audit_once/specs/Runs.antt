-- A server under any bytes at all: what it newly sends the other server, and what it writes on the link.
use Rattle.std.specs.Prelude.{ℕ, List, [], ◌∷◌, ◌++◌, Option, Some, None}
use Rattle.frame_rules.specs.Frames.{PlainFrame}
use Rattle.step_rules.specs.Helper as helper
use Rattle.step_rules.specs.Helper.{Helper}
use Rattle.step_rules.specs.HelperClients as helper_clients
use Rattle.step_rules.specs.HelperCommands.{on_link_bytes}
use Rattle.step_rules.specs.Leader as leader
use Rattle.step_rules.specs.Leader.{Leader}
use Rattle.step_rules.specs.LeaderClients as leader_clients
use Rattle.step_rules.specs.LeaderReplies.{on_reply_bytes, resent}

-- Bytes that come, whoever sent them: on a client's connection, or on the link. Or the link comes up again.
pub data Event : Type 0 where
  FromClient : (bytes : List ℕ) → Event
  FromLink : (bytes : List ℕ) → Event
  LinkUp : Event

-- ---- the helper, which does nothing where the link comes up

abbrev pub helper_after : Helper → Event → Helper
helper_after h (FromClient bytes) = (helper_clients.on_client h bytes).helper
helper_after h (FromLink bytes) = (on_link_bytes h bytes).helper
helper_after h LinkUp = h

-- the reply to a command that is carried out; a kept reply isn't new
abbrev pub new_reply : helper.Answer → List PlainFrame
new_reply (helper.Carried reply) = reply ∷ []
new_reply answer = []

abbrev pub helper_sends : Helper → Event → List PlainFrame
helper_sends h (FromLink bytes) = new_reply (on_link_bytes h bytes).answer
helper_sends h event = []

abbrev pub helper_writes : Helper → Event → List ℕ
helper_writes h (FromLink bytes) = helper.written (on_link_bytes h bytes).answer
helper_writes h event = []

-- all its replies, in order
unfoldable pub helper_sent : Helper → List Event → List PlainFrame
helper_sent h [] = []
helper_sent h (event ∷ events) = helper_sends h event ++ helper_sent (helper_after h event) events

-- all that it writes on the link, at each event
unfoldable pub helper_written : Helper → List Event → List (List ℕ)
helper_written h [] = []
helper_written h (event ∷ events) = helper_writes h event ∷ helper_written (helper_after h event) events

-- ---- the leader, which sends its oldest command again where the link comes up

abbrev pub leader_after : Leader → Event → Leader
leader_after a (FromClient bytes) = (leader_clients.on_client a bytes).leader
leader_after a (FromLink bytes) = (on_reply_bytes a bytes).leader
leader_after a LinkUp = a

-- the command that is issued for a client's frame, or for a reply of the helper
abbrev pub new_command : leader.Answer → List PlainFrame
new_command (leader.Link number command) = command ∷ []
new_command answer = []

abbrev pub new_settle : leader.Ack → List PlainFrame
new_settle (leader.Settles number command) = command ∷ []
new_settle ack = []

abbrev pub leader_sends : Leader → Event → List PlainFrame
leader_sends a (FromClient bytes) = new_command (leader_clients.on_client a bytes).answer
leader_sends a (FromLink bytes) = new_settle (on_reply_bytes a bytes).ack
leader_sends a LinkUp = []

abbrev pub again : Option PlainFrame → List PlainFrame
again (Some command) = command ∷ []
again None = []

abbrev pub leader_resends : Leader → Event → List PlainFrame
leader_resends a LinkUp = again (resent a)
leader_resends a event = []

-- all its commands, in order
unfoldable pub leader_sent : Leader → List Event → List PlainFrame
leader_sent a [] = []
leader_sent a (event ∷ events) = leader_sends a event ++ leader_sent (leader_after a event) events

-- all that it sends again
unfoldable pub leader_resent : Leader → List Event → List PlainFrame
leader_resent a [] = []
leader_resent a (event ∷ events) = leader_resends a event ++ leader_resent (leader_after a event) events
