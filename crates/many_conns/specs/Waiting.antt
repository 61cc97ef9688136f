-- What is done between two waits.
use Rattle.std.specs.Prelude.{◌≡◌, ◌⊎◌, ℕ, true, List, [], ◌∷◌, Option, Some, slice_get}
use Rattle.many_words.specs.Events.{Event, Entry, Waited, Opened, Asked, Came, Ended, Blocked, Closed, Dropped, Logged, LogFailed, Unanswered, Sent, SentAgain}
use Rattle.many_conns.specs.Rules.{Rules}
use Rattle.many_conns.specs.Places.{Place}
use Rattle.many_conns.specs.Hall.{Hall, batch}

-- an event is a look at a place
abbrev pub IsLook : (place : ℕ) → Event → Type 0
IsLook place (Came other bytes) = other ≡ place
IsLook place (Ended other) = other ≡ place
IsLook place (Blocked other) = other ≡ place
IsLook place (Waited now) = ⊥
IsLook place (Opened other door) = ⊥
IsLook place (Asked other door) = ⊥
IsLook place (Closed other) = ⊥
IsLook place (Dropped other) = ⊥
IsLook place (Logged entries) = ⊥
IsLook place LogFailed = ⊥
IsLook place (Unanswered other) = ⊥
IsLook place (Sent other bytes) = ⊥
IsLook place (SentAgain other bytes) = ⊥

-- one of these events is so
abbrev pub Some_of : (Event → Type 0) → List Event → Type 0
Some_of P [] = ⊥
Some_of P (e ∷ events) = P e ⊎ Some_of P events

-- all that a round of some state takes is logged
abbrev pub IsBatch : {S : Type 0} → Rules S → Event → Type 0
IsBatch {S} rules (Logged entries) = (m : Hall S) × (entries ≡ batch rules m)
IsBatch rules (Waited now) = ⊥
IsBatch rules (Opened other door) = ⊥
IsBatch rules (Asked other door) = ⊥
IsBatch rules (Came other bytes) = ⊥
IsBatch rules (Ended other) = ⊥
IsBatch rules (Blocked other) = ⊥
IsBatch rules (Closed other) = ⊥
IsBatch rules (Dropped other) = ⊥
IsBatch rules LogFailed = ⊥
IsBatch rules (Unanswered other) = ⊥
IsBatch rules (Sent other bytes) = ⊥
IsBatch rules (SentAgain other bytes) = ⊥

-- none of these events is a wait
abbrev pub NoWait : List Event → Type 0
NoWait [] = Unit {0}
NoWait (Waited now ∷ events) = ⊥
NoWait (Opened place door ∷ events) = NoWait events
NoWait (Asked place door ∷ events) = NoWait events
NoWait (Came place bytes ∷ events) = NoWait events
NoWait (Ended place ∷ events) = NoWait events
NoWait (Blocked place ∷ events) = NoWait events
NoWait (Closed place ∷ events) = NoWait events
NoWait (Dropped place ∷ events) = NoWait events
NoWait (Logged entries ∷ events) = NoWait events
NoWait (LogFailed ∷ events) = NoWait events
NoWait (Unanswered place ∷ events) = NoWait events
NoWait (Sent place bytes ∷ events) = NoWait events
NoWait (SentAgain place bytes ∷ events) = NoWait events

-- each connection that stands was looked at by one of these events
abbrev pub AllLooked : List Event → List Place → Type 0
AllLooked events places = (place : ℕ) (p : Place) → slice_get places place ≡ Some p → p.live ≡ true → Some_of (IsLook place) events
