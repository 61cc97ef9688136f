-- What is seen of the outside of a server of many connections: one history of all calls, in their order.
use Rattle.std.specs.Prelude.{◌≡◌, ℕ, List, [], ◌∷◌, ◌++◌, Option, Some, None}
use Rattle.many_words.specs.declared.door.Door.{Door}

-- a frame with the place and the door that it came through, and what the log notes of it, if anything
pub record Entry : Type 0 where
  pub place : ℕ
  pub door : Door
  pub frame : List ℕ
  pub noted : Option (List ℕ)

abbrev pub cons_some : Option (List ℕ) → List (List ℕ) → List (List ℕ)
cons_some None records = records
cons_some (Some bytes) records = bytes ∷ records

-- what the log writes for these frames: the records of those that have one, in order
abbrev pub records_of : List Entry → List (List ℕ)
records_of [] = []
records_of (e ∷ entries) = cons_some e.noted (records_of entries)

-- A wait gave a moment. A connection was opened at a place, in place of the one that was there, if one was; or the
-- door was asked for one and had none. Bytes came of a connection, it had no more, its output was pending so that
-- nothing was taken of it, it was closed, or dropped for one that waited at the door.
-- The records of frames were written to the log together, in this order, and synced, or the log failed. Bytes went out
-- to a connection, for the first time or again after one that broke, or the frame that came of one was taken and is
-- unanswered for now.
pub data Event : Type 0 where
  Waited : (now : ℕ) → Event
  Opened : (place : ℕ) (door : Door) → Event
  Asked : (place : ℕ) (door : Door) → Event
  Came : (place : ℕ) (bytes : List ℕ) → Event
  Ended : (place : ℕ) → Event
  Blocked : (place : ℕ) → Event
  Closed : (place : ℕ) → Event
  Dropped : (place : ℕ) → Event
  Logged : (entries : List Entry) → Event
  LogFailed : Event
  Unanswered : (place : ℕ) → Event
  Sent : (place : ℕ) (bytes : List ℕ) → Event
  SentAgain : (place : ℕ) (bytes : List ℕ) → Event

-- From old to new one call was made. An outside that tells its calls now told them before; of one that
-- doesn't tell them now nothing is said.
abbrev pub Adds : Option (List Event) → Option (List Event) → Event → Type 0
Adds old None event = Unit {0}
Adds None (Some new) event = ⊥
Adds (Some old) (Some new) event = new ≡ old ++ event ∷ []
