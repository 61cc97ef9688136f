-- What is answered, as bytes: a kind (1 byte), and what follows it.
use Rattle.std.specs.Prelude.{ℕ, List, [], ◌∷◌, Option, Some, None, option_map, if◌then◌else◌, ◌==◌}
use Rattle.lane_leases.specs.declared.ended.End.TheVariants.{Written, NotWritten}
use Rattle.lane_leases.specs.Records.{end_number}
use Rattle.http_door.specs.Replies.{PlainReply, Frame, Lease, NotYours, Ended, Busy, Preflight, Refused}
use Rattle.http_door.specs.Replies.{lease_body, lease_in}
use Rattle.door_asks.specs.Faults.{fault_number, fault_in}

abbrev pub reply_number : PlainReply → ℕ
reply_number (Frame frame) = 1
reply_number (Lease lane serial) = 2
reply_number NotYours = 3
reply_number Busy = 4
reply_number Preflight = 5
reply_number (Refused why) = 6
reply_number (Ended end) = 7

-- the frame; the lane and the serial, big-endian; a fault's or an end's number
abbrev pub reply_rest : PlainReply → List ℕ
reply_rest (Frame frame) = frame
reply_rest (Lease lane serial) = lease_body lane serial
reply_rest NotYours = []
reply_rest Busy = []
reply_rest Preflight = []
reply_rest (Refused why) = fault_number why ∷ []
reply_rest (Ended end) = end_number end ∷ []

abbrev pub answer_bytes : PlainReply → List ℕ
answer_bytes reply = reply_number reply ∷ reply_rest reply

-- this answer, where nothing follows
abbrev pub alone : PlainReply → List ℕ → Option PlainReply
alone reply [] = Some reply
alone reply (byte ∷ bytes) = None

abbrev pub refusal_in : List ℕ → Option PlainReply
refusal_in (number ∷ []) = option_map Refused (fault_in number)
refusal_in [] = None
refusal_in (number ∷ byte ∷ bytes) = None

-- an end by its number
abbrev pub end_in : ℕ → Option PlainReply
end_in n = if n == 1 then Some (Ended Written) else (if n == 2 then Some (Ended NotWritten) else None)

abbrev pub ended_in : List ℕ → Option PlainReply
ended_in (number ∷ []) = end_in number
ended_in [] = None
ended_in (number ∷ byte ∷ bytes) = None

-- the answer of a kind, by what follows it
abbrev pub reply_at : ℕ → List ℕ → Option PlainReply
reply_at kind rest =
    if kind == 1 then Some (Frame rest)
    else (if kind == 2 then lease_in rest
    else (if kind == 3 then alone NotYours rest
    else (if kind == 4 then alone Busy rest
    else (if kind == 5 then alone Preflight rest
    else (if kind == 6 then refusal_in rest
    else (if kind == 7 then ended_in rest else None))))))

-- what is answered by these bytes
abbrev pub answer_in : List ℕ → Option PlainReply
answer_in [] = None
answer_in (kind ∷ rest) = reply_at kind rest
