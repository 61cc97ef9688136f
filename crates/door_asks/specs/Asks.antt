-- What is asked, as bytes: a kind (1 byte), the length of the body (2 bytes, big-endian), and the body.
use Rattle.std.specs.Prelude.{ℕ, ◌+◌, ◌<◌, ◌⊎◌, List, [], ◌∷◌, ◌++◌, length, drop, get_or, Option, Some, None}
use Rattle.std.specs.Prelude.{option_map, if◌then◌else◌, nat_le, ◌==◌}
use Rattle.std.specs.Int.{w16, to_be_bytes, from_be_bytes}
use Rattle.http_door.specs.declared.request.Path.{Path}
use Rattle.http_door.specs.declared.request.Path.TheVariants as path
use Rattle.http_door.specs.Heads.{body_max}
use Rattle.http_door.specs.Hearing.{PlainAsked, Request, Preflight, Refused}
use Rattle.http_door.specs.Requests.{PlainRequest, Frame, Proof, Lease, request_body, request_of}
use Rattle.door_asks.specs.Faults.{fault_number, fault_in}

abbrev pub request_number : PlainRequest → ℕ
request_number (Frame ticket frame) = 1
request_number (Proof ticket statement frame) = 2
request_number (Lease ticket helper) = 3

abbrev pub kind_number : PlainAsked → ℕ
kind_number (Request r) = request_number r
kind_number Preflight = 4
kind_number (Refused why) = 5

-- a request's body as it came, and a fault's number
abbrev pub asked_body : PlainAsked → List ℕ
asked_body (Request r) = request_body r
asked_body Preflight = []
asked_body (Refused why) = fault_number why ∷ []

abbrev pub ask_bytes : PlainAsked → List ℕ
ask_bytes asked = kind_number asked ∷ (to_be_bytes w16 (length (asked_body asked)) ++ asked_body asked)

-- its body is longer than the door takes one, or there is room for less than its bytes
abbrev pub LacksRoom : PlainAsked → ℕ → Type 0
LacksRoom asked room = (body_max < length (asked_body asked)) ⊎ (room < length (ask_bytes asked))

-- the length of the body, as the head says it
abbrev pub stated_len : List ℕ → ℕ
stated_len held = from_be_bytes w16 (get_or held 1 0 ∷ get_or held 2 0 ∷ [])

-- where the first ask ends, if it has come whole
abbrev pub ask_end : List ℕ → Option ℕ
ask_end held =
    if nat_le 3 (length held)
    then (if nat_le (stated_len held) (length (drop 3 held)) then Some (3 + stated_len held) else None) else None

abbrev pub request_in : Path → List ℕ → Option PlainAsked
request_in path body = option_map Request (request_of path body)

abbrev pub preflight_in : List ℕ → Option PlainAsked
preflight_in [] = Some Preflight
preflight_in (byte ∷ bytes) = None

abbrev pub refused_in : List ℕ → Option PlainAsked
refused_in (number ∷ []) = option_map Refused (fault_in number)
refused_in [] = None
refused_in (number ∷ byte ∷ bytes) = None

-- what a body asks under a kind
abbrev pub asked_at : ℕ → List ℕ → Option PlainAsked
asked_at kind body =
    if kind == 1 then request_in path.Frame body
    else (if kind == 2 then request_in path.Proof body
    else (if kind == 3 then request_in path.Lease body
    else (if kind == 4 then preflight_in body
    else (if kind == 5 then refused_in body else None))))

-- what is asked by exactly these bytes
abbrev pub asked_in : List ℕ → Option PlainAsked
asked_in bytes =
    if nat_le 3 (length bytes)
    then (if length (drop 3 bytes) == stated_len bytes then asked_at (get_or bytes 0 0) (drop 3 bytes) else None)
    else None
