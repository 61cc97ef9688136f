-- The copies of a letter stand as a run of tries leaves them.
use Rattle.std.proofs.Common.{◌≡◌, ℕ, Bool, true, false, List, [], ◌∷◌, ◌++◌, Option, Some, None}
use Rattle.std.proofs.Common.{refl, sym, ◌∙◌, ap, arith}
use Rattle.std.specs.Prelude.{if◌then◌else◌, ◌&&◌, nat_lt}
use Rattle.step_rules.specs.Client.{Client}
use Rattle.step_rules.specs.ClientReplies.{on_reply}
use Rattle.frame_rules.specs.Whole.{whole}
use Rattle.letter_copies.specs.declared.copies.Next.{Next}
use Rattle.letter_copies.specs.declared.copies.Next.TheVariants.{GoOn, SameAgain, TryIsOver}
use Rattle.letter_copies.specs.declared.copies.Try.{Try}
use Rattle.letter_copies.specs.declared.heard.Answer.{Answer}
use Rattle.letter_copies.specs.Copies.{CopiesState, CopiesTurn, after_proof, begun, turn_at, turn_of}
use Rattle.letter_copies.specs.Copies.{begun_by as copies_begun_by}
use Rattle.letter_copies.specs.Laws.{WrittenOnce}
use Rattle.letter_copies.specs.Runs.{CopyEvent, Begins, ProofGoes, Hears, Run, after_event, follows, hears}
use Rattle.letter_copies.specs.Runs.{if_none, opened, run_from, run_of}
use Rattle.kept_letter.specs.declared.note.Told.{Told as ToldOf}
use Rattle.kept_letter.specs.declared.plan.Plan.{Plan}
use Rattle.kept_letter.specs.Laws.{IsRunOfTries, LettersAreRunsOfTries, LettersKeepTheirOpening}
use Rattle.kept_letter.specs.Letters.{LetterState, answer_in, answer_told, answered, begins, begun_by}
use Rattle.kept_letter.specs.Letters.{begun_to, client_for, fold_from, heard, heard_by, heard_turn}
use Rattle.kept_letter.specs.Letters.{is_at_last_proof, is_text_whole, key_in, letter_after}
use Rattle.kept_letter.specs.Letters.{most_tries, opened_letter, step_of, told_by, told_of}
use Rattle.kept_letter.specs.Letters.{told_turn, with_client}
use Rattle.kept_letter.specs.Notes as note
use Rattle.kept_letter.specs.Notes.{Opening, Noted}
use Rattle.kept_letter.specs.Plans.{each_of, parts_for, plan_of}

-- ---- what an event does to how the copies stand

abbrev event_state : CopiesState → CopyEvent → CopiesState
event_state s Begins = begun s
event_state s ProofGoes = after_proof s
event_state s (Hears a) = (turn_of s a).state

begins_state : (run : Run) (t : Option Try) → run.state.present ≡ t
    → (if_none t (record run { state = begun run.state; answers = [] }) run).state ≡ begun run.state
begins_state run None at = refl
begins_state run (Some t) at = sym (ap (copies_begun_by run.state) at)

follows_state : (run : Run) (t : Try) (answers : List Answer) (s : CopiesState) (n : Next)
    → (follows run t answers s n).state ≡ s
follows_state run t answers s GoOn = refl
follows_state run t answers s SameAgain = refl
follows_state run t answers s TryIsOver = refl

hears_state : (run : Run) (a : Answer) (t : Option Try) → run.state.present ≡ t
    → (hears run a (turn_of run.state a) t).state ≡ (turn_of run.state a).state
hears_state run a None at = sym (ap (λ (x : Option Try). (turn_at run.state x a).state) at)
hears_state run a (Some t) at =
    follows_state run t (a ∷ run.answers) (turn_of run.state a).state (turn_of run.state a).next

event_is : (run : Run) (e : CopyEvent) → (after_event run e).state ≡ event_state run.state e
unfolding after_event
event_is run Begins = begins_state run run.state.present refl
event_is run ProofGoes = refl
event_is run (Hears a) = hears_state run a run.state.present refl

push : (run : Run) (events : List CopyEvent) (e : CopyEvent)
    → run_from run (events ++ e ∷ []) ≡ after_event (run_from run events) e
unfolding run_from
push run [] e = refl
push run (x ∷ events) e = push (after_event run x) events e

-- ---- what a note does to them

-- a note is one event of theirs, or none
pub data Makes (before now : CopiesState) : Type 0 where
  Stays : now ≡ before → Makes before now
  Takes : (e : CopyEvent) → now ≡ event_state before e → Makes before now

by_test : (s : LetterState) (b : Bool) (now : LetterState) → Makes s.copies now.copies
    → Makes s.copies (if b then now else s).copies
by_test s true now m = m
by_test s false now m = Stays refl

begun_makes : (s : LetterState) (t : Option Try) → Makes s.copies (begun_to s (begun s.copies) t).copies
begun_makes s None = Stays refl
begun_makes s (Some t) = Takes Begins refl

begins_makes : (s : LetterState) (t : Option Try) → Makes s.copies (begun_by s t).copies
begins_makes s (Some t) = Stays refl
begins_makes s None = begun_makes s (begun s.copies).present

client_makes : (s : LetterState) (c : Option Client) → Makes s.copies (with_client s c).copies
client_makes s None = Stays refl
client_makes s (Some c) = Stays refl

answered_is : (s : LetterState) (turn : CopiesTurn) (n : Next) (c : Client) (key : Option (List ℕ))
    → (answered s turn n c key).copies ≡ turn.state
answered_is s turn GoOn c key = refl
answered_is s turn SameAgain c key = refl
answered_is s turn TryIsOver c key = refl

heard_makes : (s : LetterState) (bytes : List ℕ) (c : Option Client)
    → Makes s.copies (heard_by s bytes c).copies
heard_makes s bytes None = Stays refl
heard_makes s bytes (Some c) =
    Takes (Hears (answer_in (on_reply c bytes).progress))
    (answered_is s (heard_turn s bytes c) (heard_turn s bytes c).next (on_reply c bytes).client (key_in
    (whole bytes) s.key))

told_makes : (s : LetterState) (t : ToldOf) (c : Option Client) → Makes s.copies (told_by s t c).copies
told_makes s t None = Stays refl
told_makes s t (Some c) =
    Takes (Hears (answer_told t)) (answered_is s (told_turn s t) (told_turn s t).next c s.key)

pub step_makes : (s : LetterState) (n : Noted) → Makes s.copies (step_of s n).copies
unfolding begins heard told_of
step_makes s (note.Text bytes) = Stays refl
step_makes s note.Begins = by_test s (is_text_whole s && nat_lt s.tries most_tries) (begun_by s
    s.copies.present) (begins_makes s s.copies.present)
step_makes s (note.Leased lane serial) = client_makes s (client_for s lane serial)
step_makes s note.ProofGoes = by_test s (is_at_last_proof s.client) (record s {
  copies = after_proof s.copies;
}) (Takes ProofGoes refl)
step_makes s (note.Heard bytes) = heard_makes s bytes s.client
step_makes s (note.Told t) = told_makes s t s.client

-- ---- what no note changes

pub record SameFront (s now : LetterState) : Type 0 where
  pub seed : now.seed ≡ s.seed
  pub id : now.id ≡ s.id
  pub plan : now.plan ≡ s.plan

same : (s : LetterState) → SameFront s s
same s = record { seed = refl; id = refl; plan = refl }

test_same : (s : LetterState) (b : Bool) (now : LetterState) → SameFront s now
    → SameFront s (if b then now else s)
test_same s true now f = f
test_same s false now f = same s

begun_same : (s : LetterState) (t : Option Try) → SameFront s (begun_to s (begun s.copies) t)
begun_same s None = same s
begun_same s (Some t) = record { seed = refl; id = refl; plan = refl }

begins_same : (s : LetterState) (t : Option Try) → SameFront s (begun_by s t)
begins_same s (Some t) = same s
begins_same s None = begun_same s (begun s.copies).present

client_same : (s : LetterState) (c : Option Client) → SameFront s (with_client s c)
client_same s None = same s
client_same s (Some c) = record { seed = refl; id = refl; plan = refl }

answered_same : (s : LetterState) (turn : CopiesTurn) (n : Next) (c : Client) (key : Option (List ℕ))
    → SameFront s (answered s turn n c key)
answered_same s turn GoOn c key = record { seed = refl; id = refl; plan = refl }
answered_same s turn SameAgain c key = record { seed = refl; id = refl; plan = refl }
answered_same s turn TryIsOver c key = record { seed = refl; id = refl; plan = refl }

heard_same : (s : LetterState) (bytes : List ℕ) (c : Option Client) → SameFront s (heard_by s bytes c)
heard_same s bytes None = same s
heard_same s bytes (Some c) =
    answered_same s (heard_turn s bytes c) (heard_turn s bytes c).next (on_reply c bytes).client (key_in
    (whole bytes) s.key)

told_same : (s : LetterState) (t : ToldOf) (c : Option Client) → SameFront s (told_by s t c)
told_same s t None = same s
told_same s t (Some c) = answered_same s (told_turn s t) (told_turn s t).next c s.key

pub step_same : (s : LetterState) (n : Noted) → SameFront s (step_of s n)
unfolding begins heard told_of
step_same s (note.Text bytes) = record { seed = refl; id = refl; plan = refl }
step_same s note.Begins = test_same s (is_text_whole s && nat_lt s.tries most_tries) (begun_by s
    s.copies.present) (begins_same s s.copies.present)
step_same s (note.Leased lane serial) = client_same s (client_for s lane serial)
step_same s note.ProofGoes =
    test_same s (is_at_last_proof s.client) (record s { copies = after_proof s.copies }) (record {
      seed =
          refl;
      id = refl;
      plan = refl;
    })
step_same s (note.Heard bytes) = heard_same s bytes s.client
step_same s (note.Told t) = told_same s t s.client

fold_same : (s : LetterState) (notes : List Noted) → SameFront s (fold_from s notes)
unfolding fold_from
fold_same s [] = same s
fold_same s (n ∷ notes) =
    let first = step_same s n in
    let rest = fold_same (step_of s n) notes in
    record { seed = rest.seed ∙ first.seed; id = rest.id ∙ first.id; plan = rest.plan ∙ first.plan }

pub letters_keep_their_opening : LettersKeepTheirOpening
letters_keep_their_opening o notes =
    let f = fold_same (opened_letter o) notes in record { seed = f.seed; id = f.id; plan = f.plan }

-- ---- any notes

-- some events leave the copies so
record Left (parts each : ℕ) (s : CopiesState) : Type 0 where
  events : List CopyEvent
  run : (run_of parts each events).state ≡ s

made : (parts each : ℕ) (before now : CopiesState) → Left parts each before → Makes before now
    → Left parts each now
made parts each before now l (Stays e) = record { events = l.events; run = l.run ∙ sym e }
made parts each before now l (Takes event e) = record {
  events = l.events ++ event ∷ [];
  run =
      ap (λ (r : Run). r.state) (push (opened parts each) l.events event)
      ∙ event_is (run_of parts each l.events) event
      ∙ ap (λ (s : CopiesState). event_state s event) l.run
      ∙ sym e;
}

left : (parts each : ℕ) (s : LetterState) (notes : List Noted) → Left parts each s.copies
    → Left parts each (fold_from s notes).copies
unfolding fold_from
left parts each s [] l = l
left parts each s (n ∷ notes) l =
    left parts each (step_of s n) notes (made parts each s.copies (step_of s n).copies l (step_makes s n))

started_left : (parts each : ℕ) → Left parts each (opened parts each).state
unfolding run_from
started_left parts each = record { events = []; run = refl }

pub letters_are_runs_of_tries : WrittenOnce → LettersAreRunsOfTries
letters_are_runs_of_tries once o notes =
    let plan : Plan = plan_of o.card o.count in
    let l = left (parts_for plan plan.count) (each_of plan) (opened_letter o) notes (started_left (parts_for
    plan plan.count) (each_of plan)) in
    let front = fold_same (opened_letter o) notes in
    moved plan (letter_after o notes) front.plan l
  where
    moved : (plan : Plan) (s : LetterState) → s.plan ≡ plan
        → Left (parts_for plan plan.count) (each_of plan) s.copies → IsRunOfTries s
    moved plan s at l =
        let same_run : (run_of (parts_for s.plan s.plan.count) (each_of s.plan) l.events)
        ≡ run_of (parts_for plan plan.count) (each_of plan) l.events =
        ap (λ (p : Plan). run_of (parts_for p p.count) (each_of p) l.events) at in
        record {
          events = l.events;
          run = ap (λ (r : Run). r.state) same_run ∙ l.run;
          once = λ copy. once (parts_for s.plan s.plan.count) (each_of s.plan) l.events (omega arith) copy;
        }
