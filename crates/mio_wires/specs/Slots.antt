-- The connections at the places, by the bytes that went through their streams.
use Rattle.std.specs.Prelude.{◌≡◌, ◌≢◌, ℕ, ◌-◌, ◌≤◌, ◌<◌, nat_le, Bool, true, false, not, ◌&&◌, ◌||◌, List, [], ◌++◌, length, take, ◌==◌, Option, Some, None, is_some, Result, Ok, Err, slice_get, slice_set}
use Rattle.many_words.specs.Doors.{is_dialled}
use Rattle.many_words.specs.Events.{Event, Came, Ended, Blocked}
use Rattle.many_words.specs.declared.door.Door.{Door}
use Rattle.many_words.specs.declared.hub.Taken.{Taken}
use Rattle.mio_wires.specs.declared.wire.Halt.{Halt}
use Rattle.mio_wires.specs.declared.wire.Halt.TheVariants.{Blocked as Blocks, Interrupted, Broken}
use Rattle.many_words.specs.declared.hub.Taken.TheVariants.{Bytes, Over, Pending}

-- the door that a stream came through, the bytes that its reads gave and those that its writes took, and
-- whether a read found the end, or a call failed
pub record Stream : Type 0 where
  pub door : Door
  pub given : List ℕ
  pub written : List ℕ
  pub ended : Bool
  pub failed : Bool

-- nothing went through it yet
abbrev pub new_stream : Door → Stream
new_stream door = record { door = door; given = []; written = []; ended = false; failed = false }

-- a read with room found the end
abbrev pub is_end : (room : ℕ) → Result ℕ Halt → Bool
is_end room (Ok n) = not (room == 0) && n == 0
is_end room (Err why) = false

-- a call failed for good
abbrev pub is_broken : Result ℕ Halt → Bool
is_broken (Ok n) = false
is_broken (Err Blocks) = false
is_broken (Err Interrupted) = false
is_broken (Err Broken) = true

abbrev pub door_of : Option Stream → Option Door
door_of None = None
door_of (Some s) = Some s.door

abbrev pub given_of : Option Stream → List ℕ
given_of None = []
given_of (Some s) = s.given

abbrev pub written_of : Option Stream → List ℕ
written_of None = []
written_of (Some s) = s.written

abbrev pub ended_of : Option Stream → Bool
ended_of None = false
ended_of (Some s) = s.ended

abbrev pub failed_of : Option Stream → Bool
failed_of None = false
failed_of (Some s) = s.failed

-- A place: whether a connection is there and which door it came through, what its reads gave and its writes
-- took, what is to be written behind that and how much of it may be, whether a read found the end, whether a
-- call failed, and whether it was cut off, since there was no room for what was to be sent.
pub record Slot : Type 0 where
  pub room : ℕ
  pub live : Bool
  pub door : Option Door
  pub given : List ℕ
  pub written : List ℕ
  pub pending : List ℕ
  pub ended : Bool
  pub failed : Bool
  pub cut : Bool

-- what was sent on the connection: what was written is a front of it
abbrev pub sent : Slot → List ℕ
sent s = s.written ++ s.pending

-- nothing goes through it any more
abbrev pub is_lost : Slot → Bool
is_lost s = not s.live || (s.failed || s.cut)

-- no more is taken of it
abbrev pub is_over : Slot → Bool
is_over s = is_lost s || s.ended

-- a place as this stream, if one is there, has come to it
abbrev pub fresh : (room : ℕ) → Option Stream → Slot
fresh room stream = record {
  room = room;
  live = is_some stream;
  door = door_of stream;
  given = given_of stream;
  written = written_of stream;
  pending = [];
  ended = ended_of stream;
  failed = failed_of stream;
  cut = false;
}

-- a place without a connection
abbrev pub vacant : (room : ℕ) → Slot
vacant room = fresh room None

-- a connection that came through this door, and through which nothing went yet
abbrev pub connected : (room : ℕ) → Door → Slot
connected room door = fresh room (Some (new_stream door))

-- a write may have gone on: what was sent, what came and whose connection it is stay
pub record Flushes (old new : Slot) : Type 0 where
  pub room : new.room ≡ old.room
  pub live : new.live ≡ old.live
  pub door : new.door ≡ old.door
  pub given : new.given ≡ old.given
  pub sent_same : sent new ≡ sent old
  pub ended : new.ended ≡ old.ended
  pub cut : new.cut ≡ old.cut

-- what a take gives: bytes of this connection, behind those that it gave before
abbrev pub Gave : Door → (before : List ℕ) → Slot → Taken → List ℕ → Type 0
Gave door before s (Bytes n) buf =
    (n ≤ length buf) × (s.given ≡ before ++ take n buf) × (is_dialled door ≡ false → s.pending ≡ [])
Gave door before s Over buf = (is_over s ≡ true) × (s.given ≡ before)
Gave door before s Pending buf = (is_dialled door ≡ false) × (s.pending ≢ []) × (s.given ≡ before)

-- a take gave this; what was sent stays
pub record Reads (entrance : Door) (result : Taken) (buf : List ℕ) (old new : Slot) : Type 0 where
  pub room : new.room ≡ old.room
  pub live : new.live ≡ old.live
  pub door : new.door ≡ old.door
  pub cut : new.cut ≡ old.cut
  pub sent_same : sent new ≡ sent old
  pub gave : Gave entrance old.given new result buf

-- so too, and of a place where nothing goes through any more nothing is taken
pub record Takes (door : Door) (result : Taken) (buf : List ℕ) (old new : Slot) : Type 0 where
  pub reads : Reads door result buf old new
  pub lost : is_lost old ≡ true → result ≡ Over

-- bytes have room behind what is to be written
abbrev pub fits : Slot → List ℕ → Bool
fits s bytes = not (is_lost s) && nat_le (length bytes) (s.room - length s.pending)

abbrev pub sent_if : Bool → List ℕ → List ℕ → List ℕ
sent_if true before bytes = before ++ bytes
sent_if false before bytes = before

-- bytes were sent behind those before, all of them if they have room and none if not; then the connection is
-- cut off
pub record Sends (bytes : List ℕ) (old new : Slot) : Type 0 where
  pub room : new.room ≡ old.room
  pub live : new.live ≡ old.live
  pub door : new.door ≡ old.door
  pub given : new.given ≡ old.given
  pub ended : new.ended ≡ old.ended
  pub whole : sent new ≡ sent_if (fits old bytes) (sent old) bytes
  pub cut : new.cut ≡ (old.cut || (not (is_lost old) && not (fits old bytes)))

-- one place changed so, and no other
pub record ChangesAt (R : Slot → Slot → Type 0) (place : ℕ) (old new : List Slot) : Type 0 where
  pub before : Slot
  pub after : Slot
  pub there : slice_get old place ≡ Some before
  pub changes : R before after
  pub is : new ≡ slice_set old place after

-- so where there is such a place, and else none changed
pub record ChangesOnly (R : Slot → Slot → Type 0) (place : ℕ) (old new : List Slot) : Type 0 where
  pub at : place < length old → ChangesAt R place old new
  pub nowhere : length old ≤ place → new ≡ old

-- the connection goes
abbrev pub Leaves : (old new : Slot) → Type 0
Leaves old new = new ≡ vacant old.room

-- a new connection of this door takes the place
abbrev pub Comes : Door → (old new : Slot) → Type 0
Comes door old new = new ≡ connected old.room door

-- what a take of a place says to the history
abbrev pub taken_event : ℕ → Taken → List ℕ → Event
taken_event place (Bytes n) buf = Came place (take n buf)
taken_event place Over buf = Ended place
taken_event place Pending buf = Blocked place

-- the moment of the last wait, the places, and the calls so far
pub record Seen : Type 0 where
  pub moment : ℕ
  pub slots : List Slot
  pub calls : List Event
