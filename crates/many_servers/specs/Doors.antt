-- What comes through each door, and how it is answered where the server's log takes nothing of it.
use Rattle.std.specs.Prelude.{ℕ, Bool, true, false, List, Option, Some, None}
use Rattle.many_words.specs.declared.door.Door.{Door}
use Rattle.many_words.specs.declared.door.Door.TheVariants as door
use Rattle.many_conns.specs.Rules.{Outcome, Answers}
use Rattle.node_restart.specs.declared.frames.Sender.TheVariants.{Client, Peer}
use Rattle.node_restart.specs.Frames.{frame_record, handed}
use Rattle.lane_gate.specs.Gates.{GateState}
use Rattle.http_door.specs.declared.fault.DoorFault.TheVariants as fault
use Rattle.http_door.specs.Hearing.{PlainAsked, Request, Preflight, Refused}
use Rattle.http_door.specs.Requests.{PlainRequest, Frame, Proof, Lease}
use Rattle.http_door.specs.Replies as reply
use Rattle.http_door.specs.Replies.{PlainReply}
use Rattle.door_asks.specs.Asks.{ask_end, asked_in}
use Rattle.door_asks.specs.Answers.{answer_bytes}
use Rattle.many_servers.specs.Packets.{packet_end}
use Rattle.many_servers.specs.Passing.{takes_bytes}

-- asks come through the clients' door, packets of the other server, and nothing through the operators'
abbrev pub whole_at : Door → List ℕ → Option ℕ
whole_at door.Clients held = ask_end held
whole_at door.Status held = None
whole_at door.Link held = packet_end held
whole_at door.Dialled held = packet_end held

abbrev pub is_proof : Option PlainAsked → Bool
is_proof (Some (Request (Proof ticket statement frame))) = true
is_proof asked = false

-- a proof takes long: the server goes through all boxes
abbrev pub is_dear : Door → List ℕ → Bool
is_dear door.Clients frame = is_proof (asked_in frame)
is_dear other frame = false

-- ---- records

abbrev pub record_if : Bool → List ℕ → Option (List ℕ)
record_if true bytes = Some bytes
record_if false bytes = None

abbrev pub client_record : List ℕ → List ℕ
client_record frame = frame_record (handed Client frame)

abbrev pub peer_record : List ℕ → List ℕ
peer_record frame = frame_record (handed Peer frame)

-- the record of a client's frame that is taken
abbrev pub frame_noted : GateState → PlainRequest → Option (List ℕ)
frame_noted gate (Frame ticket frame) = record_if (takes_bytes gate ticket None frame) (client_record frame)
frame_noted gate (Proof ticket statement frame) =
    record_if (takes_bytes gate ticket (Some statement) frame) (client_record frame)
frame_noted gate (Lease ticket helper) = None

-- ---- answers

abbrev pub answers : PlainReply → Outcome
answers r = Answers (answer_bytes r)

-- to a request that isn't taken; a lane isn't leased here
abbrev pub refused_request : PlainRequest → PlainReply
refused_request (Frame ticket frame) = reply.NotYours
refused_request (Proof ticket statement frame) = reply.NotYours
refused_request (Lease ticket helper) = reply.Refused fault.NoPath

abbrev pub refused_ask : Option PlainAsked → PlainReply
refused_ask None = reply.Refused fault.Malformed
refused_ask (Some (Request r)) = refused_request r
refused_ask (Some Preflight) = reply.Preflight
refused_ask (Some (Refused why)) = reply.Refused why
