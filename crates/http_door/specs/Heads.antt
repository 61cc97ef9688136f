-- The heads of requests that the door takes, and where a request ends.
use Rattle.std.specs.Prelude.{◌≡◌, ℕ, ◌<◌, ◌≤◌, ◌⊎◌, List, ◌++◌, length, drop, Option, Some, None, Result, Ok, Err, if◌then◌else◌, nat_le, ◌==◌, codes, bytes_eq}
use Rattle.httparse.specs.Grammar.{RequestHead, HasNoRequest, MayBecomeRequest}
use Rattle.httparse.specs.Spans.{RequestOverflows, IsRequestAt, IsRequestWithin}
use Rattle.httparse.specs.declared.spans.HeaderSpan.{HeaderSpan}
use Rattle.httparse.specs.declared.spans.RequestSpans.{RequestSpans}
use Rattle.http1.specs.declared.conn.Limits.{Limits}
use Rattle.http1.specs.declared.framing.Framing.{Framing}
use Rattle.http1.specs.declared.framing.Framing.TheVariants.{NoBody, Length, Chunked, UntilClose}
use Rattle.http1.specs.Message.{AcceptsRequest}
use Rattle.http1.specs.declared.error.ReadError.{ReadError}
use Rattle.http1.specs.ReadError.{IsPastLimit, status_of}
use Rattle.http_door.specs.declared.fault.DoorFault.{DoorFault}
use Rattle.http_door.specs.declared.fault.DoorFault.TheVariants as fault

abbrev pub head_max : ℕ
head_max = 4096

abbrev pub fields_max : ℕ
fields_max = 64

-- a ticket, a statement's hash, and a frame
abbrev pub body_max : ℕ
body_max = 8262

abbrev pub door_limits : Limits
door_limits = record { max_head_len = head_max; max_extensions_len = 0; max_trailers_len = 2 }

-- The bytes begin with this head, and the rest follows it: a head of HTTP/1 of at most so many bytes and fields, each
-- line ended by CRLF, one Host (none in HTTP/1.0), and one framing.
pub record TakesHead (held : List ℕ) (head : RequestHead) (framing : Framing) (after : List ℕ) : Type 0 where
  pub accepts : AcceptsRequest door_limits held head framing after
  pub few : length head.fields ≤ fields_max

-- a POST without a length has none, and any other method no body
abbrev pub unstated_len : List ℕ → Result ℕ DoorFault
unstated_len method = if bytes_eq method (codes "POST") then Err fault.NoLength else Ok 0

-- how long the body is, where it has a length that is taken
abbrev pub body_len : List ℕ → Framing → Result ℕ DoorFault
body_len method NoBody = unstated_len method
body_len method (Length n) = if nat_le n body_max then Ok n else Err fault.LongBody
body_len method Chunked = Err fault.NoLength
body_len method UntilClose = Err fault.NoLength

-- the bytes begin with a whole request of this head and body, and the rest follows it
pub record HoldsRequest (held : List ℕ) (head : RequestHead) (body rest : List ℕ) : Type 0 where
  pub framing : Framing
  pub takes : TakesHead held head framing (body ++ rest)
  pub size : body_len head.method framing ≡ Ok (length body)

-- the bytes begin with a head whose request is refused for its body's length
abbrev pub HoldsUnsized : List ℕ → DoorFault → Type 0
HoldsUnsized held why =
    (head : RequestHead) × (framing : Framing) × (after : List ℕ)
    × TakesHead held head framing after × (body_len head.method framing ≡ Err why)

-- the bytes begin with a head that is taken, and hold less than its body
abbrev pub LacksBody : List ℕ → Type 0
LacksBody held =
    (head : RequestHead) × (framing : Framing) × (after : List ℕ) × (n : ℕ)
    × TakesHead held head framing after × (body_len head.method framing ≡ Ok n) × (length after < n)

-- the bytes hold no head yet, and can still become one
pub record LacksHead (held : List ℕ) : Type 0 where
  pub none : HasNoRequest held
  pub room : length held < head_max
  pub possible : MayBecomeRequest held

-- no head is taken of the bytes as they are
abbrev pub HasNoHead : List ℕ → Type 0
HasNoHead held =
    (head : RequestHead) (framing : Framing) (after : List ℕ) → ¬ (TakesHead held head framing after)

-- whatever follows, no head is taken
abbrev pub NeverTakes : List ℕ → Type 0
NeverTakes held =
    (more : List ℕ) (head : RequestHead) (framing : Framing) (after : List ℕ)
    → ¬ (TakesHead (held ++ more) head framing after)

-- the fault that an error of the parser is told as
abbrev pub head_fault : ReadError → DoorFault
head_fault error = if status_of error == 400 then fault.Malformed else fault.LongHead

-- what is wrong with bytes of which no head is taken
abbrev pub IsHeadCause : DoorFault → List ℕ → Type 0
IsHeadCause fault.LongHead held = IsPastLimit head_max held ⊎ RequestOverflows fields_max held
IsHeadCause fault.Malformed held = Unit {0}
IsHeadCause fault.NoPath held = ⊥
IsHeadCause fault.Method held = ⊥
IsHeadCause fault.NoLength held = ⊥
IsHeadCause fault.LongBody held = ⊥
IsHeadCause fault.NotOctets held = ⊥

-- no head is taken, whatever follows, for this cause
pub record RefusesHead (held : List ℕ) (why : DoorFault) : Type 0 where
  pub never : NeverTakes held
  pub cause : IsHeadCause why held

-- the head that the bytes begin with is taken, and its parts stand at these places
pub record IsHeadAt
    (held : List ℕ) (spans : List HeaderSpan) (at : RequestSpans) (head : RequestHead) (framing : Framing)
    : Type 0 where
  pub takes : TakesHead held head framing (drop at.len held)
  pub parts : IsRequestAt held spans at head

-- what is found where a head is due
abbrev pub FindsHead : List ℕ → List HeaderSpan → Option RequestSpans → Type 0
FindsHead held spans None = LacksHead held
FindsHead held spans (Some at) =
    IsRequestWithin held spans at × (head : RequestHead) × (framing : Framing) × IsHeadAt held spans at head framing
