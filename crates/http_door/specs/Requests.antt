-- What a client asks, and how it is spelled in a request's target and body.
use Rattle.std.specs.Prelude.{ℕ, List, ◌++◌, length, take, drop, Option, Some, None, if◌then◌else◌, nat_le, ◌==◌, codes, bytes_eq}
use Rattle.lane_gate.specs.declared.ticket.Ticket.{Ticket}
use Rattle.lane_gate.specs.declared.ticket.TicketHash.{TicketHash}
use Rattle.lane_gate.specs.declared.statement.StatementHash.{StatementHash}
use Rattle.http_door.specs.declared.request.Path.{Path}
use Rattle.http_door.specs.declared.request.Path.TheVariants as path
use Rattle.http_door.specs.declared.request.Request.{Request}
use Rattle.http_door.specs.declared.request.Request.TheVariants as request

-- a request without where its frame lies in memory
pub data PlainRequest : Type 0 where
  Frame : (ticket : Ticket) (frame : List ℕ) → PlainRequest
  Proof : (ticket : Ticket) (statement : StatementHash) (frame : List ℕ) → PlainRequest
  Lease : (ticket : Ticket) (helper : TicketHash) → PlainRequest

abbrev pub plain_request : Request → PlainRequest
plain_request (request.Frame ticket frame) = Frame ticket frame.now
plain_request (request.Proof ticket statement frame) = Proof ticket statement frame.now
plain_request (request.Lease ticket helper) = Lease ticket helper

abbrev pub path_text : Path → List ℕ
path_text path.Frame = codes "/frame"
path_text path.Proof = codes "/proof"
path_text path.Lease = codes "/lease"

-- the path that a target is, byte for byte
abbrev pub path_of : List ℕ → Option Path
path_of target =
    if bytes_eq target (path_text path.Frame) then Some path.Frame
    else (if bytes_eq target (path_text path.Proof) then Some path.Proof
    else (if bytes_eq target (path_text path.Lease) then Some path.Lease else None))

abbrev pub request_path : PlainRequest → Path
request_path (Frame ticket frame) = path.Frame
request_path (Proof ticket statement frame) = path.Proof
request_path (Lease ticket helper) = path.Lease

-- a ticket of 16 bytes first; then a statement's hash of 32 bytes and a frame, a frame, or a ticket's hash of 32 bytes
abbrev pub request_body : PlainRequest → List ℕ
request_body (Frame ticket frame) = ticket.0 ++ frame
request_body (Proof ticket statement frame) = ticket.0 ++ (statement.0 ++ frame)
request_body (Lease ticket helper) = ticket.0 ++ helper.0

abbrev pub ticket_at : List ℕ → Ticket
ticket_at body = record { 0 = take 16 body }

-- the request that a body is at a path; none where it is too short, or for a lease too long
abbrev pub request_of : Path → List ℕ → Option PlainRequest
request_of path.Frame body =
    if nat_le 16 (length body) then Some (Frame (ticket_at body) (drop 16 body)) else None
request_of path.Proof body =
    if nat_le 48 (length body)
    then Some (Proof (ticket_at body) (record { 0 = take 32 (drop 16 body) }) (drop 32 (drop 16 body))) else None
request_of path.Lease body =
    if length body == 48 then Some (Lease (ticket_at body) (record { 0 = drop 16 body })) else None
