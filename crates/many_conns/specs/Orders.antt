-- What follows of every run of the machine.
use Rattle.std.specs.Prelude.{◌≡◌, ◌⊎◌, true, List, [], ◌∷◌, ◌++◌, ℕ, Option, Some, None}
use Rattle.many_words.specs.declared.door.Door.{Door}
use Rattle.many_words.specs.Events.{Event, Entry, records_of}
use Rattle.many_words.specs.Events.{Waited, Opened, Asked, Came, Ended, Blocked, Closed, Dropped, Logged, LogFailed, Unanswered, Sent, SentAgain}
use Rattle.many_conns.specs.Rules.{Rules, Outcome, Answers, Lasts, Waits, Commands, Replies, Nothing, after_noted}
use Rattle.many_conns.specs.declared.said.Key.{Key}
use Rattle.many_conns.specs.Places.{Place, waits_for}
use Rattle.many_conns.specs.Routes.{Sending, sending_to, answered_at, dialled, waiter}
use Rattle.many_conns.specs.Hall.{Hall, IsSomeAt, outcome_for}

-- the frames that were logged, in order
abbrev pub logged_of : List Event → List Entry
logged_of [] = []
logged_of (Logged entries ∷ events) = entries ++ logged_of events
logged_of (Waited now ∷ events) = logged_of events
logged_of (Opened place door ∷ events) = logged_of events
logged_of (Asked place door ∷ events) = logged_of events
logged_of (Came place bytes ∷ events) = logged_of events
logged_of (Ended place ∷ events) = logged_of events
logged_of (Blocked place ∷ events) = logged_of events
logged_of (Closed place ∷ events) = logged_of events
logged_of (Dropped place ∷ events) = logged_of events
logged_of (LogFailed ∷ events) = logged_of events
logged_of (Unanswered place ∷ events) = logged_of events
logged_of (Sent place bytes ∷ events) = logged_of events
logged_of (SentAgain place bytes ∷ events) = logged_of events

-- what was sent for each frame, if anything was, in order
abbrev pub sent_of : List Event → List (Option Sending)
sent_of [] = []
sent_of (Sent place bytes ∷ events) = Some (record { place = place; bytes = bytes }) ∷ sent_of events
sent_of (Unanswered place ∷ events) = None ∷ sent_of events
sent_of (SentAgain place bytes ∷ events) = sent_of events
sent_of (Waited now ∷ events) = sent_of events
sent_of (Opened place door ∷ events) = sent_of events
sent_of (Asked place door ∷ events) = sent_of events
sent_of (Came place bytes ∷ events) = sent_of events
sent_of (Ended place ∷ events) = sent_of events
sent_of (Blocked place ∷ events) = sent_of events
sent_of (Closed place ∷ events) = sent_of events
sent_of (Dropped place ∷ events) = sent_of events
sent_of (LogFailed ∷ events) = sent_of events
sent_of (Logged entries ∷ events) = sent_of events

-- a server that takes these frames one at a time
abbrev pub server_after : {S : Type 0} → Rules S → S → List Entry → S
server_after rules s [] = s
server_after rules s (e ∷ entries) = server_after rules (after_noted rules s e.noted) entries

-- What was sent for a frame of this place is what becomes of it: its own answer went to its own place, a command to the
-- connection that the server dials, the answer of another's frame to a place that waited for it, or nothing to nobody.
abbrev pub IsFor : Door → (place : ℕ) → Outcome → Option Sending → Type 0
IsFor door place (Answers bytes) sent = sent ≡ sending_to bytes (answered_at door place)
IsFor door place (Lasts bytes) sent = sent ≡ sending_to bytes (answered_at door place)
IsFor door place (Waits key) sent = sent ≡ None
IsFor door place (Commands key bytes) sent = (places : List Place) × (sent ≡ sending_to bytes (dialled places))
IsFor door place (Replies key bytes) sent = (places : List Place) × (sent ≡ sending_to bytes (waiter key 0 places))
IsFor door place Nothing sent = sent ≡ None

-- so of each of these frames, which the server takes one at a time
abbrev pub AreFor : {S : Type 0} → Rules S → S → List Entry → List (Option Sending) → Type 0
AreFor rules s [] [] = Unit {0}
AreFor rules s [] (sent ∷ others) = ⊥
AreFor rules s (e ∷ entries) [] = ⊥
AreFor rules s (e ∷ entries) (sent ∷ others) =
    IsFor e.door e.place (outcome_for rules s e) sent × AreFor rules (after_noted rules s e.noted) entries others

-- What was sent is what becomes of the frames of the log where a server takes them one at a time, in their order;
-- behind them the log has only what is still owed.
pub record AnswersInOrder {S : Type 0} (rules : Rules S) (h : Hall S) (events : List Event) (t : Hall S)
    : Type 0 where
  pub taken : List Entry
  pub log : h.owed ++ logged_of events ≡ taken ++ t.owed
  pub sent : AreFor rules h.server taken (sent_of events)
  pub server : t.server ≡ server_after rules h.server taken

-- What was sent so far is what becomes of frames that the log had by then, in its order.
pub record FollowsItsLog {S : Type 0} (rules : Rules S) (server : S) (events : List Event) : Type 0 where
  pub taken : List Entry
  pub later : List Entry
  pub logged : logged_of events ≡ taken ++ later
  pub sent : AreFor rules server taken (sent_of events)

-- the records that were logged, in order
abbrev pub records_logged : List Event → List (List ℕ)
records_logged events = records_of (logged_of events)

-- a server that goes on from these records one at a time
abbrev pub restored : {S : Type 0} → Rules S → S → List (List ℕ) → S
restored rules s [] = s
restored rules s (noted ∷ records) = restored rules (rules.after s noted) records

-- A server is what the records of its log make of the one that it was at first, in their order, but for those of frames
-- that it is still to take.
pub record IsOfItsLog {S : Type 0} (rules : Rules S) (server : S) (events : List Event) (t : Hall S) : Type 0 where
  pub taken : List (List ℕ)
  pub records : records_logged events ≡ taken ++ records_of t.owed
  pub is : t.server ≡ restored rules server taken

-- it is answered at its own place with these bytes
abbrev pub IsAnswer : List ℕ → Outcome → Type 0
IsAnswer bytes outcome = (outcome ≡ Answers bytes) ⊎ (outcome ≡ Lasts bytes)

-- Bytes that go to a place are the answer to the frame that was logged first, which came of this very place, or that
-- which this frame brings for a lane's serial, and this place waits for it, or the command that it leads to, and this is
-- the place of the connection that the server dialled.
pub record IsOnItsPlace {S : Type 0} (rules : Rules S) (h : Hall S) (place : ℕ) (bytes : List ℕ) : Type 0 where
  pub first : Entry
  pub rest : List Entry
  pub owed : h.owed ≡ first ∷ rest
  pub for_it : (IsAnswer bytes (outcome_for rules h.server first) × (place ≡ first.place))
      ⊎ (((key : Key) × (outcome_for rules h.server first ≡ Replies key bytes)
      × IsSomeAt h.places place (λ p. waits_for key p ≡ true))
      ⊎ ((key : Option Key) × (outcome_for rules h.server first ≡ Commands key bytes) × (dialled h.places ≡ Some place)))
