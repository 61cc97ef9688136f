-- What holds of requests and their answers, whatever they are.
use Rattle.std.specs.Prelude.{◌≡◌, ℕ, ◌<◌, ◌≤◌, ◌^◌, Bool, true, List, ◌++◌, length, Option, Some, None}
use Rattle.std.specs.Prelude.{Result, Ok, IsTrue}
use Rattle.httparse.specs.Grammar.{RequestHead}
use Rattle.http_door.specs.Heads.{HoldsRequest, body_max}
use Rattle.http_door.specs.Hearing.{PlainHeard, Request, heard_of}
use Rattle.http_door.specs.Reading.{IsRead}
use Rattle.http_door.specs.Replies.{PlainReply, reply_text, Frame as FrameReply, Lease as LeaseReply}
use Rattle.http_door.specs.declared.reply_fault.ReplyFault.{ReplyFault}
use Rattle.http_door.specs.declared.request.Path.{Path}
use Rattle.http_door.specs.declared.request.Path.TheVariants as path
use Rattle.http_door.specs.Requests.{PlainRequest, Frame, Proof, Lease, request_body}
use Rattle.http_door.specs.Sending.{sent_text}
use Rattle.http_door.specs.Values.{is_value}

-- its ticket has 16 bytes, and each hash 32, as their types say
abbrev pub HasWidths : PlainRequest → Type 0
HasWidths (Frame ticket frame) = length ticket.0 ≡ 16
HasWidths (Proof ticket statement frame) = (length ticket.0 ≡ 16) × (length statement.0 ≡ 32)
HasWidths (Lease ticket helper) = (length ticket.0 ≡ 16) × (length helper.0 ≡ 32)

-- a request whose body is taken
pub record IsSendable (r : PlainRequest) : Type 0 where
  pub widths : HasWidths r
  pub short : length (request_body r) ≤ body_max

-- it is asked, and its connection is kept
abbrev pub heard_whole : PlainRequest → PlainHeard
heard_whole r = record { asked = Request r; keeps = true }

-- what a client wrote is held as one request of that body, whatever follows, and heard as the request that was sent
abbrev pub RequestsComeAsSent : Type 0
RequestsComeAsSent =
    (r : PlainRequest) (host rest : List ℕ) → IsSendable r → IsTrue (is_value host)
    → (head : RequestHead) × HoldsRequest (sent_text r host ++ rest) head (request_body r) rest
    × (heard_of head (request_body r) ≡ heard_whole r)

-- what follows a request changes neither its head nor its body
abbrev pub FollowersChangeNothing : Type 0
FollowersChangeNothing =
    (held more : List ℕ) (head : RequestHead) (body rest : List ℕ)
    → HoldsRequest held head body rest → HoldsRequest (held ++ more) head body (rest ++ more)

-- an answer that fits what was asked at this path: a frame that is taken, or a lease within its types
abbrev pub Fits : Path → PlainReply → Type 0
Fits path.Frame (FrameReply frame) = length frame ≤ body_max
Fits path.Proof (FrameReply frame) = length frame ≤ body_max
Fits path.Lease (FrameReply frame) = ⊥
Fits path.Frame (LeaseReply lane serial) = ⊥
Fits path.Proof (LeaseReply lane serial) = ⊥
Fits path.Lease (LeaseReply lane serial) = (lane < 2 ^ 16) × (serial < 2 ^ 32)
Fits path other = Unit {0}

abbrev pub IsOrigin : Option (List ℕ) → Type 0
IsOrigin None = Unit {0}
IsOrigin (Some origin) = IsTrue (is_value origin)

-- whatever is read of an answer that a door wrote, and of what follows it, is that answer
abbrev pub AnswersAreReadBack : Type 0
AnswersAreReadBack =
    (path : Path) (r : PlainReply) (origin : Option (List ℕ)) (keeps : Bool) (rest : List ℕ)
    (read : Result (Option PlainReply) ReplyFault) → Fits path r → IsOrigin origin
    → IsRead path (reply_text r origin keeps ++ rest) read → read ≡ Ok (Some r)

-- and of less than all of it nothing is read yet
abbrev pub CutAnswersAreAwaited : Type 0
CutAnswersAreAwaited =
    (path : Path) (r : PlainReply) (origin : Option (List ℕ)) (keeps : Bool) (held rest : List ℕ)
    (read : Result (Option PlainReply) ReplyFault) → Fits path r → IsOrigin origin
    → reply_text r origin keeps ≡ held ++ rest → 0 < length rest → IsRead path held read → read ≡ Ok None
