-- What a client reads of the bytes that came as an answer.
use Rattle.std.specs.Prelude.{◌≡◌, ◌⊎◌, ℕ, Bool, List, map, Option, Some, None, option_map, Result, Ok, Err}
use Rattle.std.specs.Prelude.{if◌then◌else◌, ◌==◌, bytes_eq}
use Rattle.httparse.specs.Grammar.{ResponseHead, status_code}
use Rattle.httparse.specs.Spans.{name_and_value}
use Rattle.lane_leases.specs.declared.ended.End.TheVariants.{Written, NotWritten}
use Rattle.http_door.specs.declared.fault.DoorFault.{DoorFault}
use Rattle.http_door.specs.declared.fault.DoorFault.TheVariants as fault
use Rattle.http_door.specs.declared.request.Path.{Path}
use Rattle.http_door.specs.declared.request.Path.TheVariants as path
use Rattle.http_door.specs.declared.reply.Reply.{Reply}
use Rattle.http_door.specs.declared.reply_fault.ReplyFault.{ReplyFault}
use Rattle.http_door.specs.declared.reply_fault.ReplyFault.TheVariants.{Malformed, Foreign}
use Rattle.http_door.specs.Fields.{has_octets}
use Rattle.http_door.specs.Replies.{PlainReply, Frame, NotYours, Ended, Busy, Preflight, Refused, plain_reply}
use Rattle.http_door.specs.Replies.{lease_in, end_text}
use Rattle.http_door.specs.Responses.{HoldsResponse, AwaitsHead, AwaitsBody, IsUnsized, NeverTakesResponse}

-- the fault that a status tells
abbrev pub fault_of_status : ℕ → Option DoorFault
fault_of_status status =
    if status == 400 then Some fault.Malformed
    else (if status == 404 then Some fault.NoPath
    else (if status == 405 then Some fault.Method
    else (if status == 411 then Some fault.NoLength
    else (if status == 413 then Some fault.LongBody
    else (if status == 415 then Some fault.NotOctets
    else (if status == 431 then Some fault.LongHead else None))))))

-- what was done: of a lease its lane and serial, else the server's frame
abbrev pub done_at : Path → List ℕ → Option PlainReply
done_at path.Frame body = Some (Frame body)
done_at path.Proof body = Some (Frame body)
done_at path.Lease body = lease_in body

-- how a request ended, in its word
abbrev pub ended_in : List ℕ → Option PlainReply
ended_in body =
    if bytes_eq body (end_text Written) then Some (Ended Written)
    else (if bytes_eq body (end_text NotWritten) then Some (Ended NotWritten) else None)

-- what isn't done, by its status
abbrev pub undone_by : ℕ → Option PlainReply
undone_by status =
    if status == 409 then Some NotYours
    else (if status == 503 then Some Busy
    else (if status == 204 then Some Preflight else option_map Refused (fault_of_status status)))

-- the answer to what was asked at a path, by its status, whether its body is of octets, and the body
abbrev pub reply_at : Path → ℕ → Bool → List ℕ → Option PlainReply
reply_at asked status octets body =
    if status == 200 then (if octets then done_at asked body else None)
    else (if status == 410 then ended_in body else undone_by status)

-- what a response answers to what was asked at a path
abbrev pub reply_of : Path → ResponseHead → List ℕ → Option PlainReply
reply_of asked head body =
    reply_at asked (status_code head) (has_octets (map name_and_value head.fields)) body

-- the bytes begin with a whole response that answers so
abbrev pub Answers : Path → List ℕ → (ResponseHead → Option PlainReply → Type 0) → Type 0
Answers asked held P =
    (head : ResponseHead) × (body : List ℕ) × (rest : List ℕ)
    × HoldsResponse held head body rest × P head (reply_of asked head body)

-- What is read of the bytes that came so far. None: more must come.
abbrev pub IsRead : Path → List ℕ → Result (Option PlainReply) ReplyFault → Type 0
IsRead asked held (Ok None) = AwaitsHead held ⊎ AwaitsBody held
IsRead asked held (Ok (Some reply)) = Answers asked held (λ head answer. answer ≡ Some reply)
IsRead asked held (Err Malformed) = NeverTakesResponse held ⊎ IsUnsized held
IsRead asked held (Err (Foreign status)) =
    Answers asked held (λ head answer. (answer ≡ None) × (status_code head ≡ status))

-- what was read, without where its frame lies in memory
abbrev pub plain_read : Result (Option Reply) ReplyFault → Result (Option PlainReply) ReplyFault
plain_read (Ok None) = Ok None
plain_read (Ok (Some reply)) = Ok (Some (plain_reply reply))
plain_read (Err why) = Err why
