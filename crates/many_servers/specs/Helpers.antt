-- A helper behind its doors.
use Rattle.std.specs.Prelude.{ℕ, ◌==◌, ◌^◌, ◌-◌, List, [], ◌∷◌, Option, Some, None, Ok, Err, if◌then◌else◌}
use Rattle.frame_rules.specs.Spelling.{spelling}
use Rattle.frame_rules.specs.Whole.{whole}
use Rattle.step_rules.specs.Helper as steps
use Rattle.step_rules.specs.HelperClients.{on_client}
use Rattle.step_rules.specs.HelperCommands.{on_link_bytes}
use Rattle.many_words.specs.declared.door.Door.{Door}
use Rattle.many_words.specs.declared.door.Door.TheVariants as door
use Rattle.many_conns.specs.Rules.{Rules, Outcome, Answers, Nothing}
use Rattle.many_conns.specs.declared.said.Key.{Key}
use Rattle.lane_gate.specs.Gates.{Answer, GateState, lease_answer}
use Rattle.lane_leases.specs.declared.ask.Announced.{Announced}
use Rattle.http_door.specs.Hearing.{PlainAsked, Request}
use Rattle.http_door.specs.Replies as reply
use Rattle.door_asks.specs.Asks.{asked_in}
use Rattle.gated_servers.specs.declared.helper.GatedHelper.{GatedHelper}
use Rattle.gated_servers.specs.Frames.{passes_link, request_open}
use Rattle.gated_servers.specs.Helpers.{helper_after}
use Rattle.many_servers.specs.declared.helper.HelperServer.{HelperServer}
use Rattle.many_servers.specs.Announced.{announced_in, is_next}
use Rattle.many_servers.specs.Doors.{whole_at, is_dear, record_if, peer_record, frame_noted, answers, refused_ask}
use Rattle.many_servers.specs.Packets.{carried, leased_record, packet}

-- ---- what the log takes

abbrev pub asked_noted : GateState → Option PlainAsked → Option (List ℕ)
asked_noted gate (Some (Request r)) = frame_noted gate r
asked_noted gate asked = None

-- a lease that the leader announced, if it is the lane's next
abbrev pub lease_noted : GateState → Option Announced → List ℕ → Option (List ℕ)
lease_noted gate None bytes = None
lease_noted gate (Some lease) bytes = record_if (is_next gate lease) bytes

-- The leader's commands are noted as they came, but no audit at the point 1 or 2.
abbrev pub command_noted : GateState → List ℕ → Option (List ℕ)
command_noted gate [] = None
command_noted gate (tag ∷ rest) =
    if tag == 2 then record_if (passes_link (whole rest)) (tag ∷ rest)
    else lease_noted gate (announced_in (tag ∷ rest)) (tag ∷ rest)

abbrev pub noted_at : GateState → Door → List ℕ → Option (List ℕ)
noted_at gate door.Clients bytes = asked_noted gate (asked_in bytes)
noted_at gate door.Link bytes = command_noted gate (carried bytes)
noted_at gate door.Status bytes = None
noted_at gate door.Dialled bytes = None

-- ---- what is told

-- of what the log takes nothing of
abbrev pub unnoted_at : Door → List ℕ → Outcome
unnoted_at door.Clients bytes = answers (refused_ask (asked_in bytes))
unnoted_at door.Link bytes = Nothing
unnoted_at door.Status bytes = Nothing
unnoted_at door.Dialled bytes = Nothing

-- of a client's frame
abbrev pub client_told : GatedHelper → List ℕ → Outcome
client_told s frame =
    if request_open s.gate (whole frame)
    then answers (reply.Frame (spelling (on_client s.helper frame).reply)) else answers reply.NotYours

-- of the leader's command
abbrev pub carried_told : steps.Answer → Outcome
carried_told (steps.Carried frame) = Answers (packet (peer_record (spelling frame)))
carried_told (steps.Repeated bytes) = Answers (packet (peer_record bytes))
carried_told steps.Ignored = Nothing

abbrev pub command_told : GatedHelper → List ℕ → Outcome
command_told s frame =
    if passes_link (whole frame) then carried_told (on_link_bytes s.helper frame).answer else Nothing

-- of a lease that the leader announced: that the gate has it
abbrev pub has_told : Answer → Key → Outcome
has_told (Ok done) key = Answers (packet (leased_record key))
has_told (Err fault) key = Nothing

abbrev pub lease_told : GateState → Option Announced → Outcome
lease_told gate None = Nothing
lease_told gate (Some lease) =
    has_told (lease_answer gate lease.lane lease.serial) (record { lane = lease.lane; serial = lease.serial })

-- of a record, by its tag
abbrev pub helper_told : GatedHelper → List ℕ → Outcome
helper_told s [] = Nothing
helper_told s (tag ∷ rest) =
    if tag == 1 then client_told s rest else
    (if tag == 2 then command_told s rest else lease_told s.gate (announced_in (tag ∷ rest)))

abbrev pub told_at : GatedHelper → Door → List ℕ → Option (List ℕ) → Outcome
told_at s door bytes None = unnoted_at door bytes
told_at s door bytes (Some noted) = helper_told s noted

-- ---- what it is behind a record: a frame's, or a lease's

abbrev pub if_lease : Option Announced → GatedHelper → GatedHelper → GatedHelper
if_lease None now before = before
if_lease (Some lease) now before = now

abbrev pub helper_behind : GatedHelper → List ℕ → GatedHelper
helper_behind s [] = s
helper_behind s (tag ∷ rest) =
    if tag == 1 then helper_after s (tag ∷ rest) else
    (if tag == 2 then helper_after s (tag ∷ rest)
    else if_lease (announced_in (tag ∷ rest)) (helper_after s (tag ∷ rest)) s)

-- more than come in a round
abbrev pub plenty : ℕ
plenty = 2 ^ 32 - 1

abbrev pub helper_answers : Rules HelperServer
helper_answers = record {
  whole = whole_at;
  is_dear = is_dear;
  room = λ s. plenty;
  noted = λ s door bytes. noted_at s.gated.gate door bytes;
  says = λ s door bytes noted. told_at s.gated door bytes noted;
  after = λ s noted. record { gated = helper_behind s.gated noted };
  outstanding = λ s. [];
}
