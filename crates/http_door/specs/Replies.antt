-- The door's answers, as HTTP's responses.
use Rattle.std.specs.Prelude.{ℕ, Bool, true, false, List, [], ◌∷◌, ◌++◌, length, take, drop, Option, Some}
use Rattle.std.specs.Prelude.{None, if◌then◌else◌, ◌==◌, codes, decimal}
use Rattle.std.specs.Borrow.{Bor}
use Rattle.std.specs.Int.{w16, w32, to_be_bytes, from_be_bytes}
use Rattle.http1.specs.Fields.{Header}
use Rattle.http1.specs.Head.{print_headers, response_text}
use Rattle.lane_leases.specs.declared.ended.End.{End}
use Rattle.lane_leases.specs.declared.ended.End.TheVariants as ends
use Rattle.http_door.specs.declared.fault.DoorFault.{DoorFault}
use Rattle.http_door.specs.declared.fault.DoorFault.TheVariants as fault
use Rattle.http_door.specs.declared.reply.Reply.{Reply}
use Rattle.http_door.specs.declared.reply.Reply.TheVariants as reply
use Rattle.http_door.specs.Texts.{fault_status, fault_text}

-- an answer without where its frame lies in memory
pub data PlainReply : Type 0 where
  Frame : (frame : List ℕ) → PlainReply
  Lease : (lane serial : ℕ) → PlainReply
  NotYours : PlainReply
  Ended : (end : End) → PlainReply
  Busy : PlainReply
  Preflight : PlainReply
  Refused : (why : DoorFault) → PlainReply

abbrev pub plain_reply : Reply → PlainReply
plain_reply (reply.Frame frame) = Frame frame.now
plain_reply (reply.Lease lane serial) = Lease lane serial
plain_reply reply.NotYours = NotYours
plain_reply (reply.Ended end) = Ended end
plain_reply reply.Busy = Busy
plain_reply reply.Preflight = Preflight
plain_reply (reply.Refused why) = Refused why

abbrev pub reply_status : PlainReply → ℕ
reply_status (Frame frame) = 200
reply_status (Lease lane serial) = 200
reply_status NotYours = 409
reply_status (Ended end) = 410
reply_status Busy = 503
reply_status Preflight = 204
reply_status (Refused why) = fault_status why

abbrev pub reply_reason : PlainReply → List ℕ
reply_reason (Frame frame) = codes "OK"
reply_reason (Lease lane serial) = codes "OK"
reply_reason NotYours = codes "Conflict"
reply_reason (Ended end) = codes "Gone"
reply_reason Busy = codes "Service Unavailable"
reply_reason Preflight = codes "No Content"
reply_reason (Refused why) = fault_text why

-- a lane and a serial, big-endian, as in a frame's header
abbrev pub lease_body : ℕ → ℕ → List ℕ
lease_body lane serial = to_be_bytes w16 lane ++ to_be_bytes w32 serial

-- the lease that a body is
abbrev pub lease_in : List ℕ → Option PlainReply
lease_in body =
    if length body == 6
    then Some (Lease (from_be_bytes w16 (take 2 body)) (from_be_bytes w32 (drop 2 body))) else None

abbrev pub end_text : End → List ℕ
end_text ends.Written = codes "written"
end_text ends.NotWritten = codes "not written"

abbrev pub reply_body : PlainReply → List ℕ
reply_body (Frame frame) = frame
reply_body (Lease lane serial) = lease_body lane serial
reply_body NotYours = codes "not yours"
reply_body (Ended end) = end_text end
reply_body Busy = []
reply_body Preflight = []
reply_body (Refused why) = []

-- a method that isn't taken is answered with those that are
abbrev pub fault_fields : DoorFault → List Header
fault_fields fault.Malformed = []
fault_fields fault.NoPath = []
fault_fields fault.Method = (codes "Allow", codes "POST, OPTIONS") ∷ []
fault_fields fault.NoLength = []
fault_fields fault.LongBody = []
fault_fields fault.NotOctets = []
fault_fields fault.LongHead = []

abbrev pub own_fields : PlainReply → List Header
own_fields (Frame frame) = (codes "Content-Type", codes "application/octet-stream") ∷ []
own_fields (Lease lane serial) = (codes "Content-Type", codes "application/octet-stream") ∷ []
own_fields NotYours = (codes "Content-Type", codes "text/plain") ∷ []
own_fields (Ended end) = (codes "Content-Type", codes "text/plain") ∷ []
own_fields Busy = (codes "Retry-After", codes "1") ∷ []
own_fields Preflight =
    (codes "Access-Control-Allow-Methods", codes "POST")
    ∷ (codes "Access-Control-Allow-Headers", codes "Content-Type") ∷ []
own_fields (Refused why) = fault_fields why

abbrev pub length_field : List ℕ → Header
length_field body = (codes "Content-Length", decimal (length body))

-- a 204 has no body, and so no length
abbrev pub length_fields : PlainReply → List Header
length_fields Preflight = []
length_fields (Frame frame) = length_field frame ∷ []
length_fields (Lease lane serial) = length_field (lease_body lane serial) ∷ []
length_fields NotYours = length_field (codes "not yours") ∷ []
length_fields (Ended end) = length_field (end_text end) ∷ []
length_fields Busy = length_field [] ∷ []
length_fields (Refused why) = length_field [] ∷ []

abbrev pub origin_value : Option (Bor (List ℕ)) → Option (List ℕ)
origin_value None = None
origin_value (Some origin) = Some origin.now

-- pages of that origin may read the answer
abbrev pub origin_fields : Option (List ℕ) → List Header
origin_fields None = []
origin_fields (Some origin) = (codes "Access-Control-Allow-Origin", origin) ∷ (codes "Vary", codes "Origin") ∷ []

abbrev pub close_fields : Bool → List Header
close_fields true = []
close_fields false = (codes "Connection", codes "close") ∷ []

-- all the fields of an answer, and no other
abbrev pub reply_fields : PlainReply → Option (List ℕ) → Bool → List Header
reply_fields r origin keeps =
    (codes "Cache-Control", codes "no-store")
    ∷ (own_fields r ++ (length_fields r ++ (origin_fields origin ++ close_fields keeps)))

-- the bytes of an answer: a head of HTTP/1.1, and the body
abbrev pub reply_text : PlainReply → Option (List ℕ) → Bool → List ℕ
reply_text r origin keeps =
    response_text 1 (reply_status r) (reply_reason r) (reply_fields r origin keeps) ++ reply_body r

-- a status line, the field that every answer has, and the fields of its kind
abbrev pub start_text : List ℕ → List ℕ → List ℕ → List ℕ
start_text status reason own =
    codes "HTTP/1.1 " ++ (status ++ (codes " " ++ (reason ++ (codes "\r\nCache-Control: no-store\r\n" ++ (own ++ [])))))

-- the fields of an origin
abbrev pub origin_text : Option (List ℕ) → List ℕ
origin_text origin = print_headers (origin_fields origin)
