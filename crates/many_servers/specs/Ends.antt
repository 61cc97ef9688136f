-- How a leader answers a client's frame that isn't taken: who comes back once the lane is another's hears how the
-- request of its ticket ended.
use Rattle.std.specs.Prelude.{ℕ, Bool, false, not, List, Option, Some, None, Result, Ok, Err, if◌then◌else◌}
use Rattle.express_words.specs.declared.refusal.Refusal.{Refusal}
use Rattle.frame_rules.specs.Frames.{PlainFrame}
use Rattle.frame_rules.specs.Whole.{whole}
use Rattle.lane_gate.specs.declared.ticket.Ticket.{Ticket}
use Rattle.lane_gate.specs.declared.ticket.TicketHash.{TicketHash}
use Rattle.lane_gate.specs.Gates.{GateState, row_at}
use Rattle.lane_gate.specs.Tickets.{ticket_hash}
use Rattle.lane_leases.specs.declared.ended.End.{End}
use Rattle.lane_leases.specs.Ends.{last_end}
use Rattle.lane_leases.specs.Leases.{LeasesState}
use Rattle.http_door.specs.Hearing.{PlainAsked, Request}
use Rattle.http_door.specs.Requests.{Frame, Proof}
use Rattle.http_door.specs.Replies as reply
use Rattle.http_door.specs.Replies.{PlainReply}
use Rattle.many_servers.specs.Doors.{refused_ask}
use Rattle.many_servers.specs.Passing.{fits_ticket}

-- the ticket isn't that of the frame's lane and serial
abbrev pub is_late : GateState → TicketHash → Result PlainFrame Refusal → Bool
is_late gate hash (Ok f) = not (fits_ticket (row_at gate.rows f.lane).holder f.serial hash)
is_late gate hash (Err refusal) = false

-- how the ticket's request ended, if that is remembered and the frame's lane and serial aren't its own any more
abbrev pub end_at : LeasesState → TicketHash → List ℕ → Option End
end_at leases hash frame = if is_late leases.gate hash (whole frame) then last_end leases.ends hash else None

abbrev pub end_told : Option End → PlainReply
end_told None = reply.NotYours
end_told (Some end) = reply.Ended end

abbrev pub refused_frame : LeasesState → Ticket → List ℕ → PlainReply
refused_frame leases ticket frame = end_told (end_at leases (ticket_hash ticket) frame)

-- the answer to an ask of which the log takes nothing
abbrev pub leader_refused : LeasesState → Option PlainAsked → PlainReply
leader_refused leases (Some (Request (Frame ticket frame))) = refused_frame leases ticket frame
leader_refused leases (Some (Request (Proof ticket statement frame))) = refused_frame leases ticket frame
leader_refused leases asked = refused_ask asked
