-- A letter's tries, one after another, as the sending leads them.
use Rattle.std.specs.Prelude.{ℕ, ◌==◌, ◌&&◌, not, Bool, true, false, List, [], ◌∷◌, Option, Some, None}
use Rattle.std.specs.Prelude.{count_by}
use Rattle.std.specs.List.{list_any}
use Rattle.desk_tries.specs.declared.heard.Answer.{Answer}
use Rattle.desk_tries.specs.declared.sending.LetterEnd.{LetterEnd}
use Rattle.desk_tries.specs.declared.sending.Next.{Next}
use Rattle.desk_tries.specs.declared.sending.Next.TheVariants.{GoOn, SameAgain, NewTry, NextAddress, Stop}
use Rattle.desk_tries.specs.Servers.{excludes}
use Rattle.desk_tries.specs.Steps.{SendingState, SendingTurn, started, after_proof, turn_of}

-- one try: the number of its address, whether its last proof has gone out, and what was answered to its
-- frames, the last answer first
pub record Try : Type 0 where
  pub address : ℕ
  pub proof_out : Bool
  pub answers : List Answer

abbrev pub fresh : ℕ → Try
fresh address = record { address = address; proof_out = false; answers = [] }

-- its last proof has gone out, and no answer excludes that it was accepted
abbrev pub may_be_accepted : Try → Bool
may_be_accepted t = t.proof_out && not (list_any excludes t.answers)

abbrev pub may_be_accepted_at : ℕ → Try → Bool
may_be_accepted_at address t = (t.address == address) && may_be_accepted t

-- how many of these tries may have been accepted at an address
abbrev pub accepted_at : ℕ → List Try → ℕ
accepted_at address tries = count_by (may_be_accepted_at address) tries

-- the last proof of the present try goes out, or an answer comes to a frame of it
pub data TryEvent : Type 0 where
  ProofGoes : TryEvent
  Hears : (answer : Answer) → TryEvent

-- the sending, its present try, those before, and its end
pub record Run : Type 0 where
  pub state : SendingState
  pub now : Try
  pub before : List Try
  pub end : Option LetterEnd

abbrev pub tries : Run → List Try
tries run = run.now ∷ run.before

abbrev pub opened : ℕ → Run
opened addresses = record { state = started addresses; now = fresh 0; before = []; end = None }

abbrev pub hears : Try → Answer → Try
hears t a = record t { answers = a ∷ t.answers }

-- behind an answer to a try: it goes on, or a new one begins, or the sending ends
abbrev pub follows : Run → Try → SendingState → Next → Run
follows run t s GoOn = record run { state = s; now = t }
follows run t s SameAgain = record run { state = s; now = t }
follows run t s NewTry = record run { state = s; now = fresh s.address; before = t ∷ run.before }
follows run t s NextAddress = record run { state = s; now = fresh s.address; before = t ∷ run.before }
follows run t s (Stop end) = record run { state = s; now = t; end = Some end }

abbrev pub follows_turn : Run → Try → SendingTurn → Run
follows_turn run t turn = follows run t turn.state turn.next

abbrev pub goes_on : Run → TryEvent → Run
goes_on run ProofGoes =
    record run { state = after_proof run.state; now = record run.now { proof_out = true } }
goes_on run (Hears a) = follows_turn run (hears run.now a) (turn_of run.state a)

-- nothing is done behind the end
abbrev pub if_open : Option LetterEnd → Run → Run → Run
if_open None next run = next
if_open (Some end) next run = run

unfoldable pub after_event : Run → TryEvent → Run
after_event run event = if_open run.end (goes_on run event) run

unfoldable pub run_from : Run → List TryEvent → Run
run_from run [] = run
run_from run (event ∷ events) = run_from (after_event run event) events

abbrev pub run_of : ℕ → List TryEvent → Run
run_of addresses events = run_from (opened addresses) events
