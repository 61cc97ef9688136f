-- What holds of each ask and each answer.
use Rattle.std.specs.Prelude.{◌≡◌, ℕ, ◌<◌, ◌^◌, List, ◌++◌, length, Some}
use Rattle.http_door.specs.Hearing.{PlainAsked, Request, Preflight, Refused}
use Rattle.http_door.specs.Laws.{IsSendable}
use Rattle.http_door.specs.Replies.{PlainReply, Frame, Lease, NotYours, Ended, Busy}
use Rattle.http_door.specs.Replies.{Preflight as PreflightReply, Refused as RefusedReply}
use Rattle.door_asks.specs.Asks.{ask_bytes, ask_end, asked_in}
use Rattle.door_asks.specs.Answers.{answer_bytes, answer_in}

-- its ticket and its hash have their widths, and the door takes its body
abbrev pub IsAskable : PlainAsked → Type 0
IsAskable (Request r) = IsSendable r
IsAskable Preflight = Unit {0}
IsAskable (Refused why) = Unit {0}

-- its lane and its serial are within their types
abbrev pub IsAnswer : PlainReply → Type 0
IsAnswer (Frame frame) = Unit {0}
IsAnswer (Lease lane serial) = (lane < 2 ^ 16) × (serial < 2 ^ 32)
IsAnswer NotYours = Unit {0}
IsAnswer (Ended end) = Unit {0}
IsAnswer Busy = Unit {0}
IsAnswer PreflightReply = Unit {0}
IsAnswer (RefusedReply why) = Unit {0}

abbrev pub AsksAreReadBack : Type 0
AsksAreReadBack = (asked : PlainAsked) → IsAskable asked → asked_in (ask_bytes asked) ≡ Some asked

abbrev pub AsksEndAlone : Type 0
AsksEndAlone =
    (asked : PlainAsked) (rest : List ℕ)
    → IsAskable asked → ask_end (ask_bytes asked ++ rest) ≡ Some (length (ask_bytes asked))

abbrev pub AnswersAreReadBack : Type 0
AnswersAreReadBack = (reply : PlainReply) → IsAnswer reply → answer_in (answer_bytes reply) ≡ Some reply
