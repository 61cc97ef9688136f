-- Answers as responses.
use Rattle.std.specs.Prelude.{◌≡◌, ℕ, ◌<◌, ◌⊎◌, Bool, List, length, take, Option, Some, None, if◌then◌else◌}
use Rattle.http_door.specs.Replies.{PlainReply, reply_text}
use Rattle.http_door.specs.Values.{is_value}
use Rattle.door_asks.specs.Answers.{answer_in}

-- the origin whose pages may read answers, if these bytes are one
abbrev pub origin_of : List ℕ → Option (List ℕ)
origin_of bytes = if is_value bytes then Some bytes else None

-- the response of an answer stands in the buffer's front
abbrev pub IsResponse : List ℕ → Option (List ℕ) → Bool → ℕ → List ℕ → Type 0
IsResponse answer origin keeps n out =
    (reply : PlainReply) × (answer_in answer ≡ Some reply) × (take n out ≡ reply_text reply origin keeps)

abbrev pub IsLong : List ℕ → Option (List ℕ) → Bool → Type 0
IsLong answer origin keeps =
    (reply : PlainReply) × (answer_in answer ≡ Some reply) × (17408 < length (reply_text reply origin keeps))

-- these bytes are no answer, or one whose response is too long
abbrev pub NoResponse : List ℕ → Option (List ℕ) → Bool → Type 0
NoResponse answer origin keeps = (answer_in answer ≡ None) ⊎ IsLong answer origin keeps
