-- The responses that a client takes, and where one ends.
use Rattle.std.specs.Prelude.{◌≡◌, ℕ, ◌<◌, ◌≤◌, List, ◌++◌, length, drop, Option, Some, None, Result, Ok, Err}
use Rattle.std.specs.Prelude.{if◌then◌else◌, nat_le}
use Rattle.httparse.specs.Grammar.{ResponseHead, ReadsResponse, HasNoResponse, MayBecomeResponse}
use Rattle.httparse.specs.Grammar.{print_response, status_code}
use Rattle.httparse.specs.Spans.{IsResponseAt, IsResponseWithin}
use Rattle.httparse.specs.declared.spans.HeaderSpan.{HeaderSpan}
use Rattle.httparse.specs.declared.spans.ResponseSpans.{ResponseSpans}
use Rattle.http1.specs.declared.framing.Framing.{Framing}
use Rattle.http1.specs.declared.framing.Framing.TheVariants.{NoBody, Length, Chunked, UntilClose}
use Rattle.http1.specs.declared.framing.FramingError.{FramingError}
use Rattle.http1.specs.declared.framing.MethodKind.TheVariants.{Other}
use Rattle.http1.specs.Framing.{response_framing}
use Rattle.http1.specs.Message.{IsStrictHead, known_of}
use Rattle.http_door.specs.Heads.{head_max, fields_max, body_max}

-- The bytes begin with this head, and the rest follows it: a head of HTTP/1 of at most so many bytes and
-- fields, each line ended by CRLF.
pub record TakesResponse (held : List ℕ) (head : ResponseHead) (after : List ℕ) : Type 0 where
  pub reads : ReadsResponse held head after
  pub strict : IsStrictHead head_max (print_response head)
  pub few : length head.fields ≤ fields_max

-- how long a body of this framing is, where it has a length that is taken
abbrev pub framed_len : Result Framing FramingError → Option ℕ
framed_len (Ok NoBody) = Some 0
framed_len (Ok (Length n)) = if nat_le n body_max then Some n else None
framed_len (Ok Chunked) = None
framed_len (Ok UntilClose) = None
framed_len (Err error) = None

-- the same of a response to a POST
abbrev pub reply_len : ResponseHead → Option ℕ
reply_len head = framed_len (response_framing Other (status_code head) head.minor (known_of head.fields))

-- the bytes begin with a whole response of this head and body, and the rest follows it
pub record HoldsResponse (held : List ℕ) (head : ResponseHead) (body rest : List ℕ) : Type 0 where
  pub takes : TakesResponse held head (body ++ rest)
  pub size : reply_len head ≡ Some (length body)

-- the bytes begin with a head whose body has no length that is taken
abbrev pub IsUnsized : List ℕ → Type 0
IsUnsized held =
    (head : ResponseHead) × (after : List ℕ) × TakesResponse held head after × (reply_len head ≡ None)

-- the bytes begin with a head that is taken, and hold less than its body
abbrev pub AwaitsBody : List ℕ → Type 0
AwaitsBody held =
    (head : ResponseHead) × (after : List ℕ) × (n : ℕ)
    × TakesResponse held head after × (reply_len head ≡ Some n) × (length after < n)

-- the bytes hold no head yet, and can still become one
pub record AwaitsHead (held : List ℕ) : Type 0 where
  pub none : HasNoResponse held
  pub room : length held < head_max
  pub possible : MayBecomeResponse held

-- whatever follows, no head is taken
abbrev pub NeverTakesResponse : List ℕ → Type 0
NeverTakesResponse held =
    (more : List ℕ) (head : ResponseHead) (after : List ℕ) → ¬ (TakesResponse (held ++ more) head after)

-- the head that the bytes begin with is taken, and its parts stand at these places
pub record IsReplyAt
    (held : List ℕ) (spans : List HeaderSpan) (at : ResponseSpans) (head : ResponseHead) : Type 0 where
  pub takes : TakesResponse held head (drop at.len held)
  pub parts : IsResponseAt held spans at head

-- what is found where a head is due
abbrev pub FindsResponse : List ℕ → List HeaderSpan → Option ResponseSpans → Type 0
FindsResponse held spans None = AwaitsHead held
FindsResponse held spans (Some at) =
    IsResponseWithin held spans at × (head : ResponseHead) × IsReplyAt held spans at head
