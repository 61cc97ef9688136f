-- Which ticket a client's frame came with, where the log notes it.
use Rattle.std.specs.Prelude.{◌≡◌, ◌++◌, ℕ, true, List, [], ◌∷◌, Option, Some, None, Ok}
use Rattle.frame_rules.specs.Whole.{whole}
use Rattle.many_words.specs.declared.door.Door.{Door}
use Rattle.many_words.specs.declared.door.Door.TheVariants.{Clients}
use Rattle.many_words.specs.Events.{Entry, Event, Logged, records_of}
use Rattle.lane_gate.specs.declared.ticket.Ticket.{Ticket}
use Rattle.lane_gate.specs.declared.statement.StatementHash.{StatementHash}
use Rattle.lane_gate.specs.Gates.{GateState, Passes, row_at}
use Rattle.lane_gate.specs.Passing.{PlainTicketed}
use Rattle.http_door.specs.Hearing.{Request}
use Rattle.http_door.specs.Requests.{PlainRequest, Frame, Proof}
use Rattle.door_asks.specs.Asks.{asked_in}
use Rattle.gated_servers.specs.declared.helper.GatedHelper.{GatedHelper}
use Rattle.gated_servers.specs.declared.leader.GatedLeader.{GatedLeader}
use Rattle.gated_servers.specs.Runs.{helper_behind, leader_behind}
use Rattle.many_servers.specs.Doors.{client_record}
use Rattle.many_servers.specs.Passing.{may_send}

-- a request that brings a frame with this ticket, and for a proof with the hash of a statement
abbrev pub request_with : Ticket → Option StatementHash → List ℕ → PlainRequest
request_with ticket None frame = Frame ticket frame
request_with ticket (Some statement) frame = Proof ticket statement frame

-- These bytes, which came through a door, are a client's request with this frame, and the frame passes the
-- gate with
-- the request's ticket: the one that its lane and serial have there, and for a proof also with the lane's
-- statement.
-- Who leases a lane sends a letter's frames alone.
pub record Carries (gate : GateState) (frame : List ℕ) (from : Door) (bytes : List ℕ) : Type 0 where
  pub sent : PlainTicketed
  pub door : from ≡ Clients
  pub came : asked_in bytes ≡ Some (Request (request_with sent.ticket sent.statement frame))
  pub whole : whole frame ≡ Ok sent.frame
  pub passes : Passes gate sent
  pub letter : may_send (row_at gate.rows sent.frame.lane).holder sent.frame.body ≡ true

-- if the log notes a client's frame of what came, the frame carries its ticket
abbrev pub CarriesTicket : GateState → Entry → Type 0
CarriesTicket gate e = (frame : List ℕ) → e.noted ≡ Some (client_record frame)
    → Carries gate frame e.door e.frame

abbrev pub AllCarry : GateState → List Entry → Type 0
AllCarry gate [] = Unit {0}
AllCarry gate (e ∷ entries) = CarriesTicket gate e × AllCarry gate entries

-- Each client's frame that is logged in these events carries its ticket, at the gate that the records before
-- make of
-- the server.
abbrev pub LogsCarry : {G : Type 0} → (gate : G → GateState) → (behind : G → List (List ℕ) → G) → G
    → List Event
    → Type 0
LogsCarry gate behind server [] = Unit {0}
LogsCarry gate behind server (Logged entries ∷ events) =
    AllCarry (gate server) entries × LogsCarry gate behind (behind server (records_of entries)) events
LogsCarry gate behind server (event ∷ events) = LogsCarry gate behind server events

abbrev pub HelperLogsCarry : GatedHelper → List Event → Type 0
HelperLogsCarry s events = LogsCarry (λ (s : GatedHelper). s.gate) helper_behind s events

abbrev pub LeaderLogsCarry : GatedLeader → List Event → Type 0
LeaderLogsCarry s events = LogsCarry (λ (s : GatedLeader). s.leases.gate) leader_behind s events

-- P of the events since the old ones
abbrev pub Since : (old new : List Event) → (List Event → Type 0) → Type 0
Since old new P = (events : List Event) × (new ≡ old ++ events) × P events
