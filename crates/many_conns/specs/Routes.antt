-- Where an answer goes.
use Rattle.std.specs.Prelude.{◌≡◌, ℕ, ◌+◌, Bool, true, false, not, List, [], ◌∷◌, ◌++◌, take, map, Option, Some, None, slice_get}
use Rattle.many_words.specs.Events.{Event, Adds, Sent, SentAgain, Unanswered}
use Rattle.many_words.specs.declared.door.Door.{Door}
use Rattle.many_words.specs.Doors.{is_dialled}
use Rattle.many_conns.specs.declared.said.Key.{Key}
use Rattle.many_conns.specs.declared.routing.Send.{Send}
use Rattle.many_conns.specs.Rules.{Outcome, Answers, Lasts, Waits, Commands, Replies, Nothing}
use Rattle.many_conns.specs.Places.{Place, is_linked, waits_for, waiting_for, released, replied, finished}
use Rattle.many_conns.specs.Batches.{put_some}

-- bytes with the place that they go to
pub record Sending : Type 0 where
  pub place : ℕ
  pub bytes : List ℕ

abbrev pub place_if : Bool → ℕ → Option ℕ → Option ℕ
place_if true place later = Some place
place_if false place later = later

-- the place that waits for this, of those from this number on
abbrev pub waiter : Key → ℕ → List Place → Option ℕ
waiter key place [] = None
waiter key place (p ∷ places) = place_if (waits_for key p) place (waiter key (place + 1) places)

abbrev pub sending_to : List ℕ → Option ℕ → Option Sending
sending_to bytes None = None
sending_to bytes (Some place) = Some (record { place = place; bytes = bytes })

abbrev pub place_when : Bool → ℕ → Option ℕ
place_when true place = Some place
place_when false place = None

-- the place of the connection that the server dials, if one stands there: it is the first one
abbrev pub dialled : List Place → Option ℕ
dialled [] = None
dialled (p ∷ places) = place_when (is_linked p) 0

-- the place where a frame is answered that came to this one: none of the connection that the server dials
abbrev pub answered_at : Door → ℕ → Option ℕ
answered_at door place = place_when (not (is_dialled door)) place

-- What is sent for a frame of this place: its answer to the very place, the command that it leads to on the connection
-- that the server dials, or the answer that it brings to the place that waits for it.
abbrev pub sending : Door → (place : ℕ) → Outcome → List Place → Option Sending
sending door place (Answers bytes) places = sending_to bytes (answered_at door place)
sending door place (Lasts bytes) places = sending_to bytes (answered_at door place)
sending door place (Waits key) places = None
sending door place (Commands key bytes) places = sending_to bytes (dialled places)
sending door place (Replies key bytes) places = sending_to bytes (waiter key 0 places)
sending door place Nothing places = None

-- a change of the place of this number, if there is one
abbrev pub changed_at : (Place → Place) → Option ℕ → List Place → List Place
changed_at f None places = places
changed_at f (Some place) places = put_some places place f (slice_get places place)

-- One waits for an answer at most: who comes last.
abbrev pub waiting_at : Option Key → ℕ → List Place → List Place
waiting_at None place places = places
waiting_at (Some key) place places = changed_at (waiting_for key) (Some place) (map (released key) places)

abbrev pub key_unless : Bool → Option Key → Option Key
key_unless true key = None
key_unless false key = key

-- what the place of a frame waits for: nothing at the connection that the server dials
abbrev pub key_at : Door → Option Key → Option Key
key_at door key = key_unless (is_dialled door) key

-- the places behind a frame of this place
abbrev pub places_after : (now : ℕ) → Door → (place : ℕ) → Outcome → List Place → List Place
places_after now door place (Answers bytes) places = places
places_after now door place (Lasts bytes) places = changed_at finished (Some place) places
places_after now door place (Waits key) places = waiting_at (key_at door (Some key)) place places
places_after now door place (Commands key bytes) places = waiting_at (key_at door key) place places
places_after now door place (Replies key bytes) places = changed_at (replied now) (waiter key 0 places) places
places_after now door place Nothing places = places

-- what is sent of these bytes
abbrev pub sent_bytes : (out : List ℕ) → Option Send → Option Sending
sent_bytes out None = None
sent_bytes out (Some send) = Some (record { place = send.place; bytes = take send.count out })

-- for the frame of this place this was sent, or nothing
abbrev pub Delivers : (old new : Option (List Event)) → (place : ℕ) → Option Sending → Type 0
Delivers old new place None = Adds old new (Unanswered place)
Delivers old new place (Some sent) = Adds old new (Sent sent.place sent.bytes)

abbrev pub resent_if : Bool → List (List ℕ) → List (List ℕ)
resent_if true commands = commands
resent_if false commands = []

-- those of these commands that are sent again where a connection of this door is opened: all, where the server dials it
abbrev pub resent_at : Door → List (List ℕ) → List (List ℕ)
resent_at door commands = resent_if (is_dialled door) commands

-- these commands were sent again to this place, in order
abbrev pub Resends : (old new : Option (List Event)) → (place : ℕ) → List (List ℕ) → Type 0
Resends old None place commands = Unit {0}
Resends None (Some new) place commands = ⊥
Resends (Some old) (Some new) place commands = new ≡ old ++ map (SentAgain place) commands

-- the command of this place among these was sent again
pub record IsResentAt (old new : Option (List Event)) (place : ℕ) (commands : List (List ℕ)) (index : ℕ) : Type 0 where
  pub command : List ℕ
  pub there : slice_get commands index ≡ Some command
  pub told : Adds old new (SentAgain place command)
