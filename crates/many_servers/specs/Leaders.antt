-- A leader behind its doors.
use Rattle.std.specs.Prelude.{ℕ, ◌==◌, ◌-◌, List, [], ◌∷◌, length, map, Option, Some, None, Result, Ok, Err, if◌then◌else◌}
use Rattle.express_words.specs.declared.refusal.Refusal.{Refusal}
use Rattle.frame_rules.specs.Frames.{PlainFrame}
use Rattle.frame_rules.specs.Spelling.{spelling}
use Rattle.frame_rules.specs.Whole.{whole}
use Rattle.step_rules.specs.Leader as steps
use Rattle.step_rules.specs.LeaderClients.{on_client}
use Rattle.step_rules.specs.LeaderReplies.{on_reply_bytes}
use Rattle.leader_core.specs.declared.standing.Standing.{Standing}
use Rattle.leader_core.specs.declared.standing.Standing.TheVariants.{Busy, Written, Other}
use Rattle.many_words.specs.declared.door.Door.{Door}
use Rattle.many_words.specs.declared.door.Door.TheVariants as door
use Rattle.many_conns.specs.Rules.{Rules, Outcome, Waits, Commands, Replies, Nothing}
use Rattle.many_conns.specs.declared.said.Key.{Key}
use Rattle.lane_gate.specs.Tickets.{ticket_hash}
use Rattle.lane_gate.specs.Gates.{Answer, GateState, lease_answer, row_at}
use Rattle.lane_gate.specs.Holders.{last_serial}
use Rattle.lane_leases.specs.declared.ask.Ask.{Ask}
use Rattle.lane_leases.specs.declared.ask.Announced.{Announced}
use Rattle.lane_leases.specs.Choosing.{longest_of}
use Rattle.lane_leases.specs.Leases.{LeasesState}
use Rattle.lane_leases.specs.Records.{ask_bytes}
use Rattle.http_door.specs.Hearing.{PlainAsked, Request}
use Rattle.http_door.specs.Requests.{PlainRequest, Frame, Proof, Lease}
use Rattle.http_door.specs.Replies as reply
use Rattle.door_asks.specs.Asks.{asked_in}
use Rattle.door_asks.specs.Answers.{answer_bytes}
use Rattle.gated_servers.specs.declared.leader.GatedLeader.{GatedLeader}
use Rattle.gated_servers.specs.Frames.{is_frame, request_open}
use Rattle.gated_servers.specs.Leaders.{leader_after, leader_asked, serial_behind, standing_of}
use Rattle.gated_servers.specs.Records.{ask_in}
use Rattle.many_servers.specs.declared.leader.LeaderServer.{LeaderServer}
use Rattle.many_servers.specs.Announced.{announced_record}
use Rattle.many_servers.specs.Doors.{whole_at, is_dear, record_if, peer_record, frame_noted, answers}
use Rattle.many_servers.specs.Ends.{leader_refused}
use Rattle.many_servers.specs.Packets.{carried, leased_in, packet}

-- ---- what the log takes

abbrev pub ask_record : Ask → List ℕ
ask_record ask = 20 ∷ ask_bytes ask

-- an ask for a lease, whose hashes have 32 bytes each, as their types say
abbrev pub ask_noted : Ask → Option (List ℕ)
ask_noted ask = record_if (length (ask_bytes ask) == 64) (ask_record ask)

-- a frame that is taken, and each ask for a lease, by the hashes of its tickets
abbrev pub request_noted : GateState → PlainRequest → Option (List ℕ)
request_noted gate (Frame ticket frame) = frame_noted gate (Frame ticket frame)
request_noted gate (Proof ticket statement frame) = frame_noted gate (Proof ticket statement frame)
request_noted gate (Lease ticket helper) = ask_noted (record { own = ticket_hash ticket; helper = helper })

abbrev pub asked_noted : GateState → Option PlainAsked → Option (List ℕ)
asked_noted gate (Some (Request r)) = request_noted gate r
asked_noted gate asked = None

-- the helper's frames are noted as they came
abbrev pub reply_noted : List ℕ → Option (List ℕ)
reply_noted [] = None
reply_noted (tag ∷ rest) = if tag == 2 then record_if (is_frame (whole rest)) (tag ∷ rest) else None

abbrev pub noted_at : GateState → Door → List ℕ → Option (List ℕ)
noted_at gate door.Clients bytes = asked_noted gate (asked_in bytes)
noted_at gate door.Dialled bytes = reply_noted (carried bytes)
noted_at gate door.Link bytes = None
noted_at gate door.Status bytes = None

-- ---- what is told

-- that the helper has a lease goes to whoever asked for it
abbrev pub leased_told : Option Key → Outcome
leased_told None = Nothing
leased_told (Some key) = Replies key (answer_bytes (reply.Lease key.lane key.serial))

-- of what the log takes nothing of
abbrev pub unnoted_at : LeasesState → Door → List ℕ → Outcome
unnoted_at leases door.Clients bytes = answers (leader_refused leases (asked_in bytes))
unnoted_at leases door.Dialled bytes = leased_told (leased_in (carried bytes))
unnoted_at leases door.Link bytes = Nothing
unnoted_at leases door.Status bytes = Nothing

-- the lane and serial of a frame
abbrev pub key_of : Result PlainFrame Refusal → Key
key_of (Ok f) = record { lane = f.lane; serial = f.serial }
key_of (Err refusal) = record { lane = 0; serial = 0 }

-- of a client's frame, which came in this ask
abbrev pub turn_told : Key → steps.Answer → Outcome
turn_told key (steps.Reply frame) = answers (reply.Frame (spelling frame))
turn_told key (steps.Link number command) = Commands (Some key) (packet (peer_record (spelling command)))
turn_told key (steps.StillWaiting number) = Waits key

abbrev pub request_told : GatedLeader → Option PlainAsked → List ℕ → Outcome
request_told s asked frame =
    if request_open s.leases.gate (whole frame)
    then turn_told (key_of (whole frame)) (on_client s.leader frame).answer
    else answers (leader_refused s.leases asked)

-- of the helper's frame
abbrev pub ack_told : Key → steps.Ack → Outcome
ack_told key (steps.ToLane lane frame) = Replies key (answer_bytes (reply.Frame (spelling frame)))
ack_told key (steps.Settles number command) = Commands None (packet (peer_record (spelling command)))
ack_told key steps.Ignored = Nothing

abbrev pub reply_told : GatedLeader → List ℕ → Outcome
reply_told s frame =
    if is_frame (whole frame) then ack_told (key_of (whole frame)) (on_reply_bytes s.leader frame).ack else Nothing

-- ---- leases

abbrev pub lease_of : GatedLeader → ℕ → Ask → Announced
lease_of s lane ask = record {
  lane = lane;
  serial = serial_behind (last_serial (row_at s.leases.gate.rows lane).holder);
  hash = ask.helper;
}

abbrev pub given_if : Answer → Announced → Option Announced
given_if (Ok done) lease = Some lease
given_if (Err fault) lease = None

abbrev pub unless_busy : Standing → Option Announced → Option Announced
unless_busy Busy lease = None
unless_busy (Written serial) lease = lease
unless_busy Other lease = lease

abbrev pub given_at : Option ℕ → GatedLeader → Ask → Option Announced
given_at None s ask = None
given_at (Some lane) s ask = unless_busy (standing_of s lane)
    (given_if (lease_answer s.leases.gate lane (lease_of s lane ask).serial) (lease_of s lane ask))

-- the lease that is given: the next serial of the lane that has rested longest, if nothing of it is under way
abbrev pub lease_given : GatedLeader → Ask → Option Announced
lease_given s ask = given_at (longest_of s.leases.gate.rows) s ask

-- it is announced to the helper, and whoever asked waits until the helper has it
abbrev pub given_told : Option Announced → Outcome
given_told None = answers reply.Busy
given_told (Some lease) =
    Commands (Some (record { lane = lease.lane; serial = lease.serial })) (packet (announced_record lease))

-- the ask that a record is, of what stands behind its tag
abbrev pub whole_ask : List ℕ → Option Ask
whole_ask rest = if length rest == 64 then Some (ask_in rest) else None

abbrev pub ask_told : GatedLeader → Option Ask → Outcome
ask_told s None = Nothing
ask_told s (Some ask) = given_told (lease_given s ask)

-- of the record of what came in these bytes, by its tag
abbrev pub leader_told : GatedLeader → (bytes noted : List ℕ) → Outcome
leader_told s bytes [] = Nothing
leader_told s bytes (tag ∷ rest) =
    if tag == 1 then request_told s (asked_in bytes) rest else
    (if tag == 2 then reply_told s rest else
    (if tag == 20 then ask_told s (whole_ask rest) else Nothing))

abbrev pub told_at : GatedLeader → Door → List ℕ → Option (List ℕ) → Outcome
told_at s door bytes None = unnoted_at s.leases door bytes
told_at s door bytes (Some noted) = leader_told s bytes noted

-- ---- what it is behind a record: a frame's, or an ask's

abbrev pub ask_behind : GatedLeader → Option Ask → GatedLeader
ask_behind s None = s
ask_behind s (Some ask) = leader_asked s ask

abbrev pub leader_behind : GatedLeader → List ℕ → GatedLeader
leader_behind s [] = s
leader_behind s (tag ∷ rest) =
    if tag == 1 then leader_after s (tag ∷ rest) else
    (if tag == 2 then leader_after s (tag ∷ rest) else
    (if tag == 20 then ask_behind s (whole_ask rest) else s))

-- the commands that are unanswered, in packets
abbrev pub outstanding_of : steps.Leader → List (List ℕ)
outstanding_of leader = map (λ (f : PlainFrame). packet (peer_record (spelling f))) leader.outstanding

abbrev pub leader_answers : Rules LeaderServer
leader_answers = record {
  whole = whole_at;
  is_dear = is_dear;
  room = λ s. s.gated.opening.server.settings.window - length s.gated.leader.outstanding;
  noted = λ s door bytes. noted_at s.gated.leases.gate door bytes;
  says = λ s door bytes noted. told_at s.gated door bytes noted;
  after = λ s noted. record { gated = leader_behind s.gated noted };
  outstanding = λ s. outstanding_of s.gated.leader;
}
