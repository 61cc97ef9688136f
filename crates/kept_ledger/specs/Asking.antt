-- What a ledger asks at its servers' doors, and the note by which it hears an answer.
use Rattle.std.specs.Prelude.{ℕ, ◌&&◌, nat_le, not, if◌then◌else◌, Bool, true, false, List, length}
use Rattle.std.specs.Prelude.{Option, Some, None, is_some, option_map}
use Rattle.desk_sheets.specs.declared.sheet.Pair.{Pair}
use Rattle.frame_rules.specs.Spelling.{spelling}
use Rattle.http_door.specs.Replies as reply
use Rattle.http_door.specs.Replies.{PlainReply}
use Rattle.http_door.specs.Requests as request
use Rattle.door_work.specs.Asking.{Asking, PlainNext, Rest, Ask}
use Rattle.step_rules.specs.Client as steps
use Rattle.step_rules.specs.Client.{Progress}
use Rattle.step_rules.specs.ClientAsks.{Sent, sends}
use Rattle.step_rules.specs.ClientReplies.{on_reply}
use Rattle.kept_ledger.specs.declared.machine.KeptLedger.{KeptLedger}
use Rattle.kept_ledger.specs.Ledgers.{LedgerState}
use Rattle.kept_ledger.specs.Notes.{Noted, Heard, note_record}
use Rattle.kept_ledger.specs.Sends.{key_at, role_of}

-- ---- what it asks

-- a frame goes to its own server, with the key of the owner's lane there as its ticket
abbrev pub asks_for : Pair → Option Sent → PlainNext
asks_for p None = Rest
asks_for p (Some sent) =
    Ask (role_of sent.server) (request.Frame (key_at p (role_of sent.server)) (spelling sent.frame))

-- It rests where no request is current, and where the current one isn't taken now.
unfoldable pub ledger_wants : LedgerState → PlainNext
ledger_wants s = if is_some s.refused then Rest else asks_for s.pair (sends s.client)

-- ---- what it hears

abbrev pub is_ignored : Progress → Bool
is_ignored steps.Ignored = true
is_ignored (steps.Later refusal) = false
is_ignored steps.Next = false
is_ignored (steps.Finished outcome) = false

-- a frame behind which the same isn't asked again: it is the answer to the client's step
abbrev pub brings_on : LedgerState → (frame : List ℕ) → Bool
brings_on s frame = not (is_ignored (on_reply s.client frame).progress)

abbrev pub note_if : Bool → Noted → Option Noted
note_if is note = if is then Some note else None

-- The note of an answer: a frame that fits a note and brings the ledger on. None of any other answer.
abbrev pub heard_note : LedgerState → PlainReply → Option Noted
heard_note s (reply.Frame frame) = note_if (nat_le (length frame) 8213 && brings_on s frame) (Heard frame)
heard_note s (reply.Lease lane serial) = None
heard_note s reply.NotYours = None
heard_note s (reply.Ended end) = None
heard_note s reply.Busy = None
heard_note s reply.Preflight = None
heard_note s (reply.Refused why) = None

abbrev pub ledger_hears : LedgerState → PlainReply → Option (List ℕ)
ledger_hears s r = option_map note_record (heard_note s r)

abbrev pub ledger_asking : Asking KeptLedger
ledger_asking = record {
  next_of = λ k. ledger_wants k.ledger.state;
  heard_as = λ k r. ledger_hears k.ledger.state r;
}
