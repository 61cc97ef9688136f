-- The commands on a connection that the server dials.
use Rattle.std.specs.Prelude.{◌≡◌, ℕ, ◌==◌, Bool, true, false, List, [], ◌∷◌, ◌++◌, Option}
use Rattle.many_words.specs.Events.{Event, Entry, Waited, Opened, Asked, Came, Ended, Blocked, Closed, Dropped, Logged, LogFailed, Unanswered, Sent, SentAgain}
use Rattle.many_conns.specs.Rules.{Rules, Outcome, Answers, Lasts, Waits, Commands, Replies, Nothing, after_noted}
use Rattle.many_conns.specs.Routes.{Sending}
use Rattle.many_conns.specs.Hall.{State, outcome_for}
use Rattle.many_conns.specs.Orders.{logged_of, server_after}

abbrev pub bytes_if : Bool → List ℕ → List (List ℕ) → List (List ℕ)
bytes_if true bytes later = bytes ∷ later
bytes_if false bytes later = later

-- what went to the place of the connection that the server dials, in order
abbrev pub dialled_bytes : List Event → List (List ℕ)
dialled_bytes [] = []
dialled_bytes (Sent place bytes ∷ events) = bytes_if (place == 0) bytes (dialled_bytes events)
dialled_bytes (SentAgain place bytes ∷ events) = bytes_if (place == 0) bytes (dialled_bytes events)
dialled_bytes (Waited now ∷ events) = dialled_bytes events
dialled_bytes (Opened place door ∷ events) = dialled_bytes events
dialled_bytes (Asked place door ∷ events) = dialled_bytes events
dialled_bytes (Came place bytes ∷ events) = dialled_bytes events
dialled_bytes (Ended place ∷ events) = dialled_bytes events
dialled_bytes (Blocked place ∷ events) = dialled_bytes events
dialled_bytes (Closed place ∷ events) = dialled_bytes events
dialled_bytes (Dropped place ∷ events) = dialled_bytes events
dialled_bytes (Logged entries ∷ events) = dialled_bytes events
dialled_bytes (LogFailed ∷ events) = dialled_bytes events
dialled_bytes (Unanswered place ∷ events) = dialled_bytes events

-- what is still to be sent there again
abbrev pub dialled_again : List Sending → List (List ℕ)
dialled_again [] = []
dialled_again (s ∷ again) = bytes_if (s.place == 0) s.bytes (dialled_again again)

abbrev pub issued_by : Outcome → List (List ℕ) → List (List ℕ)
issued_by (Answers bytes) later = later
issued_by (Lasts bytes) later = later
issued_by (Waits key) later = later
issued_by (Commands key bytes) later = bytes ∷ later
issued_by (Replies key bytes) later = later
issued_by Nothing later = later

-- the commands that these frames lead to, where a server takes them one at a time
abbrev pub issued : {S : Type 0} → Rules S → S → List Entry → List (List ℕ)
issued rules s [] = []
issued rules s (e ∷ entries) = issued_by (outcome_for rules s e) (issued rules (after_noted rules s e.noted) entries)

-- the connection at this place stays
abbrev pub Stays : (place : ℕ) → List Event → Type 0
Stays place [] = Unit {0}
Stays place (Opened other door ∷ events) = (other ≡ place → ⊥) × Stays place events
Stays place (Closed other ∷ events) = (other ≡ place → ⊥) × Stays place events
Stays place (Dropped other ∷ events) = (other ≡ place → ⊥) × Stays place events
Stays place (Waited now ∷ events) = Stays place events
Stays place (Asked other door ∷ events) = Stays place events
Stays place (Came other bytes ∷ events) = Stays place events
Stays place (Ended other ∷ events) = Stays place events
Stays place (Blocked other ∷ events) = Stays place events
Stays place (Logged entries ∷ events) = Stays place events
Stays place (LogFailed ∷ events) = Stays place events
Stays place (Unanswered other ∷ events) = Stays place events
Stays place (Sent other bytes ∷ events) = Stays place events
Stays place (SentAgain other bytes ∷ events) = Stays place events

-- While the connection that a server dialled stands, what went to it, and what is still to be sent again there, are the
-- commands that were unanswered when it was opened, and behind them each one that a frame of the log led to since, in
-- order.
pub record CommandsInOrder {S : Type 0} (rules : Rules S) (server : S) (events : List Event) (t : State S) : Type 0 where
  pub taken : List Entry
  pub log : logged_of events ≡ taken ++ t.hall.owed
  pub is : t.hall.server ≡ server_after rules server taken
  pub commands : dialled_bytes events ++ dialled_again t.again ≡ rules.outstanding server ++ issued rules server taken
