-- What the door hears of the bytes that came.
use Rattle.std.specs.Prelude.{ℕ, Bool, false, not, List, length, take, Option, Some, None, Result, Ok, Err, if◌then◌else◌, nat_le, codes, bytes_eq}
use Rattle.httparse.specs.Grammar.{RequestHead}
use Rattle.http_door.specs.declared.fault.DoorFault.{DoorFault}
use Rattle.http_door.specs.declared.fault.DoorFault.TheVariants as fault
use Rattle.http_door.specs.declared.request.Path.{Path}
use Rattle.http_door.specs.declared.hearing.Asked.{Asked}
use Rattle.http_door.specs.declared.hearing.Asked.TheVariants as asked
use Rattle.http_door.specs.declared.hearing.Heard.{Heard}
use Rattle.http_door.specs.Fields.{fields_of, has_octets, keeps}
use Rattle.http1.specs.declared.framing.Framing.{Framing}
use Rattle.http_door.specs.Heads.{body_len}
use Rattle.http_door.specs.Requests.{PlainRequest, plain_request, path_of, request_of}

-- what is asked, without where it lies in memory
pub data PlainAsked : Type 0 where
  Request : (request : PlainRequest) → PlainAsked
  Preflight : PlainAsked
  Refused : (why : DoorFault) → PlainAsked

pub record PlainHeard : Type 0 where
  pub asked : PlainAsked
  pub keeps : Bool

abbrev pub plain_asked : Asked → PlainAsked
plain_asked (asked.Request r) = Request (plain_request r)
plain_asked asked.Preflight = Preflight
plain_asked (asked.Refused why) = Refused why

abbrev pub plain_heard : Heard → PlainHeard
plain_heard heard = record { asked = plain_asked heard.asked; keeps = heard.keeps }

-- refused, and the connection is closed
abbrev pub closed : DoorFault → PlainHeard
closed why = record { asked = Refused why; keeps = false }

abbrev pub asked_in : Option PlainRequest → PlainAsked
asked_in None = Refused fault.Malformed
asked_in (Some request) = Request request

-- what is asked at a path, by the method, whether the body is of octets, and the body
abbrev pub asked_at : Path → List ℕ → Bool → List ℕ → PlainAsked
asked_at path method octets body =
    if bytes_eq method (codes "OPTIONS") then Preflight
    else (if not (bytes_eq method (codes "POST")) then Refused fault.Method
    else (if not octets then Refused fault.NotOctets else asked_in (request_of path body)))

-- what is asked, where the target may name a path
abbrev pub asked_where : Option Path → List ℕ → Bool → List ℕ → PlainAsked
asked_where None method octets body = Refused fault.NoPath
asked_where (Some path) method octets body = asked_at path method octets body

-- what a head asks with this body
abbrev pub asked_of : RequestHead → List ℕ → PlainAsked
asked_of head body = asked_where (path_of head.target) head.method (has_octets (fields_of head)) body

-- what a whole request asks, and whether its connection is kept
abbrev pub heard_of : RequestHead → List ℕ → PlainHeard
heard_of head body = record { asked = asked_of head body; keeps = keeps head }

-- the same, of a head and what follows it
abbrev pub heard_with : RequestHead → List ℕ → Result ℕ DoorFault → PlainHeard
heard_with head after (Ok n) =
    if nat_le n (length after) then heard_of head (take n after) else closed fault.Malformed
heard_with head after (Err why) = closed why

abbrev pub heard_at : RequestHead → Framing → List ℕ → PlainHeard
heard_at head framing after = heard_with head after (body_len head.method framing)
