-- The tries of a letter's copies, one after another.
use Rattle.std.specs.Prelude.{ℕ, ◌==◌, ◌&&◌, not, Bool, true, false, List, [], ◌∷◌, ◌++◌, Option, Some, None, count_by}
use Rattle.std.specs.List.{list_any}
use Rattle.express_words.specs.declared.refusal.Refusal.{Refusal}
use Rattle.express_words.specs.declared.refusal.Refusal.TheVariants as refusal
use Rattle.letter_copies.specs.declared.copies.Next.{Next}
use Rattle.letter_copies.specs.declared.copies.Next.TheVariants.{GoOn, SameAgain, TryIsOver}
use Rattle.letter_copies.specs.declared.copies.Try.{Try}
use Rattle.letter_copies.specs.declared.heard.Answer.{Answer}
use Rattle.letter_copies.specs.declared.heard.Answer.TheVariants as answer
use Rattle.letter_copies.specs.Copies.{CopiesState, CopiesTurn, after_proof, begun, started, turn_of}

-- ---- what answers exclude
-- A server adds a write's bytes only at its settle. The leader issues the settle behind the audit, and the audit only when
-- it takes a proof of that lane and serial at a row that is challenged. So a write whose last proof never went out isn't
-- added. A lane and serial have one lease, and one write; its row at the leader is done with one of these answers, and
-- keeps it (docs/PROTOCOL.md, the tables of `step_rules/specs`):
--   Accepted    both servers have added the write's bytes
--   Rejected    the closings of both servers don't accept: neither has added them
--   NotProved   the helper had no proof at the audit: no settle is issued
--   NoDeposit   the helper's row was another's at the begin, the audit or the settle: the leader adds nothing
-- A leader remembers a lease's end as not written only by one of the last three.

-- a row that is done by this refusal: its write isn't accepted, before or after
abbrev pub closes : Refusal → Bool
closes (refusal.Rejected o0 o1 t0 t1) = true
closes refusal.NotProved = true
closes refusal.NoDeposit = true
closes r = false

abbrev pub excludes : Answer → Bool
excludes answer.EndedNotWritten = true
excludes (answer.Refused r) = closes r
excludes a = false

-- ---- tries

-- one try: the number of its copy, whether its last proof has gone out, and what was answered to its requests, the last
-- answer first
pub record CopyTry : Type 0 where
  pub copy : ℕ
  pub proof_out : Bool
  pub answers : List Answer

-- its last proof has gone out, and no answer excludes that it was accepted
abbrev pub may_be_accepted : CopyTry → Bool
may_be_accepted t = t.proof_out && not (list_any excludes t.answers)

abbrev pub is_of : ℕ → CopyTry → Bool
is_of copy t = t.copy == copy

abbrev pub may_be_accepted_at : ℕ → CopyTry → Bool
may_be_accepted_at copy t = is_of copy t && may_be_accepted t

-- how many of these tries are of a copy, and how many of them may have been accepted
abbrev pub tries_at : ℕ → List CopyTry → ℕ
tries_at copy tries = count_by (is_of copy) tries

abbrev pub accepted_at : ℕ → List CopyTry → ℕ
accepted_at copy tries = count_by (may_be_accepted_at copy) tries

-- ---- runs

-- a try begins of the first copy that waits, the last proof of the present try goes out, or an answer comes to it
pub data CopyEvent : Type 0 where
  Begins : CopyEvent
  ProofGoes : CopyEvent
  Hears : (answer : Answer) → CopyEvent

-- how the copies stand, what was answered to the present try, and the tries before it
pub record Run : Type 0 where
  pub state : CopiesState
  pub answers : List Answer
  pub before : List CopyTry

abbrev pub try_of : Try → List Answer → CopyTry
try_of t answers = record { copy = t.copy; proof_out = t.proof_out; answers = answers }

abbrev pub present_try : Option Try → List Answer → List CopyTry
present_try None answers = []
present_try (Some t) answers = try_of t answers ∷ []

abbrev pub tries : Run → List CopyTry
tries run = present_try run.state.present run.answers ++ run.before

abbrev pub opened : (parts each : ℕ) → Run
opened parts each = record { state = started parts each; answers = []; before = [] }

abbrev pub if_none : {A B : Type 0} → Option A → B → B → B
if_none None then other = then
if_none (Some a) then other = other

-- behind an answer to a try: it goes on, or it is over
abbrev pub follows : Run → Try → List Answer → CopiesState → Next → Run
follows run t answers s GoOn = record run { state = s; answers = answers }
follows run t answers s SameAgain = record run { state = s; answers = answers }
follows run t answers s TryIsOver =
    record { state = s; answers = []; before = try_of t answers ∷ run.before }

abbrev pub hears : Run → Answer → CopiesTurn → Option Try → Run
hears run a turn None = run
hears run a turn (Some t) = follows run t (a ∷ run.answers) turn.state turn.next

unfoldable pub after_event : Run → CopyEvent → Run
after_event run Begins =
    if_none run.state.present (record run { state = begun run.state; answers = [] }) run
after_event run ProofGoes = record run { state = after_proof run.state }
after_event run (Hears a) = hears run a (turn_of run.state a) run.state.present

unfoldable pub run_from : Run → List CopyEvent → Run
run_from run [] = run
run_from run (event ∷ events) = run_from (after_event run event) events

abbrev pub run_of : (parts each : ℕ) → List CopyEvent → Run
run_of parts each events = run_from (opened parts each) events
