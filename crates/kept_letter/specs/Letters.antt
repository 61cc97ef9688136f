-- A letter on its way, and what each note does to it.
use Rattle.std.specs.Prelude.{ℕ, ◌+◌, ◌-◌, ◌/◌, ◌%◌, ◌==◌, ◌&&◌, nat_le, nat_lt, if◌then◌else◌}
use Rattle.std.specs.Prelude.{Bool, false}
use Rattle.std.specs.Prelude.{List, [], ◌∷◌, ◌++◌, length, slice_get, Option, Some, None, Result, Ok, Err}
use Rattle.frame_rules.specs.Frames as frame
use Rattle.frame_rules.specs.Frames.{PlainFrame, PlainBody}
use Rattle.frame_rules.specs.Whole.{whole}
use Rattle.mailbox_rules.specs.Requests.{Request, Write}
use Rattle.step_rules.specs.Client as steps
use Rattle.step_rules.specs.Client.{Client, Fault, opened_client}
use Rattle.step_rules.specs.ClientAsks as asks
use Rattle.step_rules.specs.ClientReplies.{on_reply}
use Rattle.client_core.specs.LastProof.{at_last_proof}
use Rattle.express_words.specs.declared.refusal.Refusal.{Refusal}
use Rattle.letter_copies.specs.declared.copies.Next.{Next}
use Rattle.letter_copies.specs.declared.copies.Next.TheVariants.{GoOn, SameAgain, TryIsOver}
use Rattle.letter_copies.specs.declared.copies.Try.{Try}
use Rattle.letter_copies.specs.declared.heard.Answer.{Answer}
use Rattle.letter_copies.specs.declared.heard.Answer.TheVariants as answer
use Rattle.letter_copies.specs.Copies.{CopiesState, CopiesTurn, after_proof, begun, started, turn_of}
use Rattle.letter_pieces.specs.Pieces.{encoded, piece_of}
use Rattle.letter_pieces.specs.Places.{part_places}
use Rattle.kept_letter.specs.declared.note.Told.{Told as ToldOf}
use Rattle.kept_letter.specs.declared.note.Told.TheVariants as told
use Rattle.kept_letter.specs.declared.plan.Plan.{Plan}
use Rattle.kept_letter.specs.Draws.{try_seed}
use Rattle.kept_letter.specs.Notes.{Opening, Noted, Text, Begins, Leased, ProofGoes, Heard, Told}
use Rattle.kept_letter.specs.Plans.{each_of, parts_for, plan_of}

-- Its seed and id, where it goes, its text so far, how many tries have begun, how its copies stand, the
-- client of the present try, once that has a lease, and the key of the challenges that it was given.
pub record LetterState : Type 0 where
  pub seed : List ℕ
  pub id : ℕ
  pub plan : Plan
  pub text : List ℕ
  pub tries : ℕ
  pub copies : CopiesState
  pub client : Option Client
  pub key : Option (List ℕ)

abbrev pub opened_on : Opening → Plan → LetterState
opened_on o plan = record {
  seed = o.seed;
  id = o.id;
  plan = plan;
  text = [];
  tries = 0;
  copies = started (parts_for plan plan.count) (each_of plan);
  client = None;
  key = None;
}

abbrev pub opened_letter : Opening → LetterState
opened_letter o = opened_on o (plan_of o.card o.count)

-- ---- the text

-- more than its length is never taken
abbrev pub longer_text : (count : ℕ) → (text bytes : List ℕ) → List ℕ
longer_text count text bytes = if nat_le (length text + length bytes) count then text ++ bytes else text

abbrev pub with_text : LetterState → List ℕ → LetterState
with_text s bytes = record s { text = longer_text s.plan.count s.text bytes }

abbrev pub is_text_whole : LetterState → Bool
is_text_whole s = nat_le 1 s.plan.count && (length s.text == s.plan.count)

-- ---- a try

-- No letter has so many tries: six for each copy are the most, and 64 copies.
abbrev pub most_tries : ℕ
most_tries = 1000

abbrev pub begun_to : LetterState → CopiesState → Option Try → LetterState
begun_to s now None = s
begun_to s now (Some t) = record s { tries = s.tries + 1; copies = now; client = None; key = None }

abbrev pub begun_by : LetterState → Option Try → LetterState
begun_by s (Some t) = s
begun_by s None = begun_to s (begun s.copies) (begun s.copies).present

-- A try of the first copy that waits begins, where none is under way and the text is whole.
unfoldable pub begins : LetterState → LetterState
begins s = if is_text_whole s && nat_lt s.tries most_tries then begun_by s s.copies.present else s

-- the seed of the present try's client
abbrev pub present_seed : LetterState → List ℕ
present_seed s = try_seed s.seed (s.tries - 1)

-- ---- the write of a copy: its part's piece, at one of the part's places

abbrev pub address_at : List ℕ → Option ℕ → Option ℕ
address_at addresses None = None
address_at addresses (Some place) = slice_get addresses place

-- copy c is copy c % each of part c / each
unfoldable pub target_of : LetterState → ℕ → Option ℕ
target_of s copy =
    address_at s.plan.card.addresses
    (slice_get (part_places (length s.plan.card.addresses) s.id (copy / each_of s.plan)) (copy % each_of s.plan))

abbrev pub piece_bytes : LetterState → ℕ → List ℕ
piece_bytes s copy = encoded s.plan.card.width (piece_of s.plan.card.width s.id s.text (copy / each_of s.plan))

abbrev pub write_to : Option ℕ → List ℕ → Option Request
write_to None message = None
write_to (Some target) message = Some (Write target message)

unfoldable pub write_of : LetterState → ℕ → Option Request
write_of s copy =
    if nat_lt (copy / each_of s.plan) (parts_for s.plan (length s.text))
    then write_to (target_of s copy) (piece_bytes s copy)
    else None

-- ---- a lease

abbrev pub client_or_none : Result Client Fault → Option Client
client_or_none (Ok c) = Some c
client_or_none (Err fault) = None

abbrev pub asking : Client → Option Request → Option Client
asking c None = None
asking c (Some request) = client_or_none (asks.asked c request)

-- a client of the present try, before it asks
abbrev pub client_on : LetterState → (lane serial : ℕ) → Client
client_on s lane serial = opened_client lane (present_seed s) s.plan.card.width 0 serial

abbrev pub client_by : LetterState → (lane serial : ℕ) → Option Try → Option Client → Option Client
client_by s lane serial None now = None
client_by s lane serial (Some t) (Some c) = None
client_by s lane serial (Some t) None =
    asking (client_on s lane serial) (write_of s t.copy)

-- the client that a lease gives the present try, which asks for the write of its copy; none where it has one
unfoldable pub client_for : LetterState → (lane serial : ℕ) → Option Client
client_for s lane serial = client_by s lane serial s.copies.present s.client

abbrev pub with_client : LetterState → Option Client → LetterState
with_client s None = s
with_client s (Some c) = record s { client = Some c; key = None }

abbrev pub leased : LetterState → (lane serial : ℕ) → LetterState
leased s lane serial = with_client s (client_for s lane serial)

-- ---- the last proof

abbrev pub is_at_last_proof : Option Client → Bool
is_at_last_proof None = false
is_at_last_proof (Some c) = at_last_proof c.current

abbrev pub proof_goes : LetterState → LetterState
proof_goes s = if is_at_last_proof s.client then record s { copies = after_proof s.copies } else s

-- ---- an answer

-- what a client says of a frame, as an answer to its request
abbrev pub answer_in : steps.Progress → Answer
answer_in steps.Ignored = answer.Other
answer_in (steps.Later refusal) = answer.Refused refusal
answer_in steps.Next = answer.Fits
answer_in (steps.Finished (steps.Registered number)) = answer.Other
answer_in (steps.Finished steps.Accepted) = answer.Accepted
answer_in (steps.Finished (steps.Message bytes)) = answer.Other
answer_in (steps.Finished (steps.Refused refusal)) = answer.Refused refusal

abbrev pub answer_told : ToldOf → Answer
answer_told told.NotYours = answer.NotYours
answer_told told.Written = answer.EndedWritten
answer_told told.NotWritten = answer.EndedNotWritten

-- the key of the challenges, where a challenge came
abbrev pub key_by : PlainBody → Option (List ℕ) → Option (List ℕ)
key_by (frame.Challenge ckey) key = Some ckey
key_by body key = key

abbrev pub key_in : Result PlainFrame Refusal → Option (List ℕ) → Option (List ℕ)
key_in (Ok f) key = key_by f.body key
key_in (Err r) key = key

-- the client goes on to this one, does the same again, or has no more to do
abbrev pub answered : LetterState → CopiesTurn → (next : Next) → Client → Option (List ℕ) → LetterState
answered s turn GoOn c key = record s { copies = turn.state; client = Some c; key = key }
answered s turn SameAgain c key = record s { copies = turn.state }
answered s turn TryIsOver c key = record s { copies = turn.state; client = None; key = None }

-- the client goes on behind a frame
abbrev pub gone_on : LetterState → List ℕ → Option Client → LetterState
gone_on s bytes None = s
gone_on s bytes (Some c) = record s {
  client = Some (on_reply c bytes).client;
  key = key_in (whole bytes)
      s.key;
}

abbrev pub heard_turn : LetterState → List ℕ → Client → CopiesTurn
heard_turn s bytes c = turn_of s.copies (answer_in (on_reply c bytes).progress)

abbrev pub heard_by : LetterState → List ℕ → Option Client → LetterState
heard_by s bytes None = s
heard_by s bytes (Some c) =
    answered s (heard_turn s bytes c) (heard_turn s bytes c).next (on_reply c bytes).client (key_in (whole
    bytes) s.key)

unfoldable pub heard : LetterState → List ℕ → LetterState
heard s bytes = heard_by s bytes s.client

abbrev pub told_turn : LetterState → ToldOf → CopiesTurn
told_turn s t = turn_of s.copies (answer_told t)

abbrev pub told_by : LetterState → ToldOf → Option Client → LetterState
told_by s t None = s
told_by s t (Some c) = answered s (told_turn s t) (told_turn s t).next c s.key

unfoldable pub told_of : LetterState → ToldOf → LetterState
told_of s t = told_by s t s.client

-- ---- any note

abbrev pub step_of : LetterState → Noted → LetterState
step_of s (Text bytes) = with_text s bytes
step_of s Begins = begins s
step_of s (Leased lane serial) = leased s lane serial
step_of s ProofGoes = proof_goes s
step_of s (Heard bytes) = heard s bytes
step_of s (Told t) = told_of s t

unfoldable pub fold_from : LetterState → List Noted → LetterState
fold_from s [] = s
fold_from s (n ∷ notes) = fold_from (step_of s n) notes

-- the letter that an opening and notes give
abbrev pub letter_after : Opening → List Noted → LetterState
letter_after o notes = fold_from (opened_letter o) notes
