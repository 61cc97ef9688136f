-- A connection of the clients' door since it was opened.
use Rattle.std.specs.Prelude.{◌≡◌, ℕ, false, List, [], ◌∷◌, ◌++◌, length, take, drop, Some}
use Rattle.std.specs.List.{flat_map}
use Rattle.http_door.specs.Hearing.{PlainHeard}
use Rattle.door_asks.specs.Asks.{ask_bytes}
use Rattle.many_words.specs.declared.door.Door.{Door}
use Rattle.many_words.specs.declared.door.Door.TheVariants.{Clients}
use Rattle.many_words.specs.declared.hub.Taken.{Taken}
use Rattle.many_words.specs.declared.hub.Taken.TheVariants.{Bytes, Over, Pending}
use Rattle.many_words.specs.Events.{Event, Waited, Opened, Asked, Came, Ended, Blocked, Closed, Dropped, Logged, LogFailed, Unanswered, Sent, SentAgain}
use Rattle.http_wires.specs.declared.client.Turn.{Turn}
use Rattle.http_wires.specs.declared.client.Turn.TheVariants as turn
use Rattle.http_wires.specs.Clients.{Client, Hears, Takes, answered, is_kept, opened}

-- ---- what was called

abbrev pub bytes_of : Event → List ℕ
bytes_of (Waited now) = []
bytes_of (Opened place door) = []
bytes_of (Asked place door) = []
bytes_of (Came place bytes) = bytes
bytes_of (Ended place) = []
bytes_of (Blocked place) = []
bytes_of (Closed place) = []
bytes_of (Dropped place) = []
bytes_of (Logged entries) = []
bytes_of LogFailed = []
bytes_of (Unanswered place) = []
bytes_of (Sent place bytes) = []
bytes_of (SentAgain place bytes) = []

-- the bytes that came in these calls
abbrev pub came_in : List Event → List ℕ
came_in events = flat_map bytes_of events

-- those that a take gave
abbrev pub given_by : Taken → List ℕ → List ℕ
given_by (Bytes n) buf = take n buf
given_by Over buf = []
given_by Pending buf = []

-- Since the connection was opened these bytes came of it below, these were given of asks, and it stands so now: it was
-- opened, taken of, and answered.
pub data Lives : (came gave : List ℕ) → Client → Type 0 where
  Begun : Lives [] [] (opened Clients)
  Took : {came gave : List ℕ} → {p : Client} → Lives came gave p → (old new : List Event) → (place : ℕ) → (door : Door)
      → (result : Taken) → (buf : List ℕ) → (q : Client) → Takes (Some old) (Some new) place door p result buf q
      → Lives (came ++ came_in (drop (length old) new)) (gave ++ given_by result buf) q
  Replied : {came gave : List ℕ} → {p : Client} → Lives came gave p → Lives came gave (answered (is_kept p) p)
  Silent : {came gave : List ℕ} → {p : Client} → Lives came gave p → Lives came gave (answered false p)

-- ---- what was read

-- The bytes that came are these requests, one behind another, each heard of what had come then; and the rest.
pub data Reads : (came : List ℕ) → List PlainHeard → (rest : List ℕ) → Type 0 where
  Waits : (held : List ℕ) → Reads held [] held
  Then : (seen after later : List ℕ) → (heard : PlainHeard) → (more : List PlainHeard) → (rest : List ℕ)
      → Hears seen heard after → Reads (after ++ later) more rest → Reads (seen ++ later) (heard ∷ more) rest

abbrev pub asked_bytes : PlainHeard → List ℕ
asked_bytes heard = ask_bytes heard.asked

-- what is held is the rest, until nothing more is asked
abbrev pub HoldsRest : Turn → List ℕ → List ℕ → Type 0
HoldsRest turn.Raw held rest = held ≡ rest
HoldsRest turn.Client held rest = held ≡ rest
HoldsRest (turn.Server keeps) held rest = held ≡ rest
HoldsRest turn.Over held rest = Unit {0}

-- the asks that were given are those of the requests that were read, one behind another, up to what is still to be given
pub record AsksWhatCame (came gave : List ℕ) (p : Client) : Type 0 where
  pub requests : List PlainHeard
  pub rest : List ℕ
  pub reads : Reads came requests rest
  pub asks : gave ++ p.coming ≡ flat_map asked_bytes requests
  pub held : HoldsRest p.turn p.held rest

-- at each moment of each connection
abbrev pub RequestsAreAskedInOrder : Type 0
RequestsAreAskedInOrder = (came gave : List ℕ) (p : Client) → Lives came gave p → AsksWhatCame came gave p
