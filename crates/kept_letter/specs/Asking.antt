-- What a letter on its way asks at its servers' doors, and the note by which it hears an answer.
use Rattle.std.specs.Prelude.{ℕ, ◌&&◌, nat_le, not, if◌then◌else◌, Bool, true, false, List, length}
use Rattle.std.specs.Prelude.{Option, Some, None, is_some, option_map}
use Rattle.express_words.specs.declared.role.Role.TheVariants.{Leader}
use Rattle.lane_gate.specs.declared.statement.StatementHash.{StatementHash}
use Rattle.lane_gate.specs.declared.ticket.Ticket.{Ticket}
use Rattle.lane_leases.specs.declared.ended.End.{End}
use Rattle.lane_leases.specs.declared.ended.End.TheVariants as ends
use Rattle.http_door.specs.Replies as reply
use Rattle.http_door.specs.Replies.{PlainReply}
use Rattle.http_door.specs.Requests as request
use Rattle.http_door.specs.Requests.{PlainRequest}
use Rattle.door_work.specs.Asking.{Asking, PlainNext, Rest, Note, Ask}
use Rattle.client_core.specs.Answers.{bytes_of}
use Rattle.step_rules.specs.Client.{Client}
use Rattle.step_rules.specs.ClientReplies.{on_reply}
use Rattle.letter_copies.specs.Fate.{fate_by}
use Rattle.letter_copies.specs.declared.copies.Try.{Try}
use Rattle.letter_copies.specs.declared.heard.Answer.{Answer}
use Rattle.letter_copies.specs.declared.heard.Fate.{Fate}
use Rattle.letter_copies.specs.declared.heard.Fate.TheVariants as fate
use Rattle.kept_letter.specs.declared.machine.KeptLetter.{KeptLetter}
use Rattle.kept_letter.specs.declared.next.LetterNext.{LetterNext}
use Rattle.kept_letter.specs.declared.next.LetterNext.TheVariants as next
use Rattle.kept_letter.specs.declared.note.Told.{Told as ToldOf}
use Rattle.kept_letter.specs.declared.note.Told.TheVariants as told
use Rattle.kept_letter.specs.Letters.{LetterState, answer_in}
use Rattle.kept_letter.specs.Nexts.{next_of, sent_at}
use Rattle.kept_letter.specs.Notes.{Noted, Begins, Leased, ProofGoes, Heard, Told, note_record}

-- ---- what it asks

-- a frame goes with its ticket, and a proof with the hash of its statement too
abbrev pub frame_request : Ticket → Option StatementHash → List ℕ → PlainRequest
frame_request ticket None frame = request.Frame ticket frame
frame_request ticket (Some statement) frame = request.Proof ticket statement frame

-- The text and the end are nobody's to ask. A try's beginning and its last proof are noted. A lease is asked
-- at the leader, and a frame goes to its own server.
abbrev pub wants : LetterNext → (frame : List ℕ) → PlainNext
wants next.Text frame = Rest
wants (next.Ended end) frame = Rest
wants next.Begin frame = Note (note_record Begins)
wants (next.Lease ticket helper) frame = Ask Leader (request.Lease ticket helper)
wants next.NoteProof frame = Note (note_record ProofGoes)
wants (next.Send sending) frame = Ask sending.to (frame_request sending.ticket sending.statement frame)

-- what the letter needs next, as a machine that asks at doors
unfoldable pub letter_wants : LetterState → PlainNext
letter_wants s = wants (next_of s) (bytes_of (sent_at (next_of s) s.client))

-- ---- what it hears

abbrev pub is_again : Fate → Bool
is_again fate.Again = true
is_again fate.GoesOn = false
is_again fate.NotWritten = false
is_again fate.Unknown = false
is_again fate.Written = false

abbrev pub asks_again : Option Try → Answer → Bool
asks_again None a = false
asks_again (Some t) a = is_again (fate_by t.proof_out a)

abbrev pub brings_on_by : LetterState → (frame : List ℕ) → Option Client → Bool
brings_on_by s frame None = false
brings_on_by s frame (Some c) = not (asks_again s.copies.present (answer_in (on_reply c frame).progress))

-- a frame behind which the same isn't asked again
abbrev pub brings_on : LetterState → (frame : List ℕ) → Bool
brings_on s frame = brings_on_by s frame s.client

abbrev pub note_if : Bool → Noted → Option Noted
note_if is note = if is then Some note else None

abbrev pub told_end : End → ToldOf
told_end ends.Written = told.Written
told_end ends.NotWritten = told.NotWritten

-- The note of an answer: a lease while there is no client; a frame that fits a note and brings the try on; or
-- what is told in place of a frame. None of any other answer.
abbrev pub heard_note : LetterState → PlainReply → Option Noted
heard_note s (reply.Lease lane serial) =
    note_if (not (is_some s.client) && nat_le 1 serial) (Leased lane serial)
heard_note s (reply.Frame frame) = note_if (nat_le (length frame) 8213 && brings_on s frame) (Heard frame)
heard_note s reply.NotYours = note_if (is_some s.client) (Told told.NotYours)
heard_note s (reply.Ended end) = note_if (is_some s.client) (Told (told_end end))
heard_note s reply.Busy = None
heard_note s reply.Preflight = None
heard_note s (reply.Refused why) = None

abbrev pub letter_hears : LetterState → PlainReply → Option (List ℕ)
letter_hears s r = option_map note_record (heard_note s r)

abbrev pub letter_asking : Asking KeptLetter
letter_asking = record {
  next_of = λ k. letter_wants k.letter;
  heard_as = λ k r. letter_hears k.letter r;
}
