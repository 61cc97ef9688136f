-- One connection.
use Rattle.std.specs.Prelude.{◌≡◌, ℕ, zero, suc, ◌-◌, nat_le, ◌==◌, Bool, true, false, not, ◌&&◌, ◌||◌, List, [], ◌∷◌, ◌++◌, length, take, drop, Option, Some, None, is_none}
use Rattle.many_conns.specs.declared.said.Key.{Key}
use Rattle.many_conns.specs.declared.patience.Patience.{Patience}
use Rattle.many_words.specs.declared.door.Door.{Door}
use Rattle.many_words.specs.Doors.{is_link, is_dialled, is_peer}
use Rattle.many_words.specs.Events.{Event, Adds, Came, Ended, Blocked}
use Rattle.many_words.specs.declared.hub.Taken.{Taken}
use Rattle.many_words.specs.declared.hub.Taken.TheVariants.{Bytes, Over, Pending}

-- A place for a connection, and the door that its connections come through: whether one is there, what came of it and
-- wasn't taken, whether it has no more, whether no more is taken of it, whether an answer to it may not have left, what
-- it waits for, and since when it has been waited for. Since the last wait it is due until it was looked at, and where
-- another may come the door was asked, or wasn't.
pub record Place : Type 0 where
  pub door : Door
  pub live : Bool
  pub held : List ℕ
  pub ended : Bool
  pub finished : Bool
  pub pending : Bool
  pub waits : Option Key
  pub since : ℕ
  pub due : Bool
  pub asked : Bool

abbrev pub empty_place : Door → Place
empty_place door = record {
  door = door;
  live = false;
  held = [];
  ended = false;
  finished = false;
  pending = false;
  waits = None;
  since = 0;
  due = false;
  asked = true;
}

abbrev pub new_place : Door → ℕ → Place
new_place door now = record {
  door = door;
  live = true;
  held = [];
  ended = false;
  finished = false;
  pending = false;
  waits = None;
  since = now;
  due = true;
  asked = true;
}

-- a connection may come: none is there, or the door is the other server's, whose next one takes the first one's place
abbrev pub is_free : Place → Bool
is_free p = not p.live || is_link p.door

-- after a wait
abbrev pub waited : Place → Place
waited p = record p { due = true; asked = false }

-- the door has none for it now
abbrev pub asked : Place → Place
asked p = record p { asked = true }

-- its connection was dropped for another, for which the door is still to be asked
abbrev pub vacated : Place → Place
vacated p = record (empty_place p.door) { asked = false }

-- bytes came behind those that came before
abbrev pub with_bytes : List ℕ → Place → Place
with_bytes bytes p = record p { held = p.held ++ bytes; pending = false; due = false }

-- it has no more
abbrev pub at_end : Place → Place
at_end p = record p { ended = true; pending = false; due = false }

-- its output is pending: nothing was taken of it
abbrev pub blocked : Place → Place
blocked p = record p { pending = true; due = false }

-- its first frame, of so many bytes, was taken: the next one is waited for from now on
abbrev pub taken : (now count : ℕ) → Place → Place
taken now count p = record p { held = drop count p.held; since = now; pending = true }

abbrev pub front_of : List ℕ → Option ℕ → Option (List ℕ)
front_of held None = None
front_of held (Some count) = Some (take count held)

abbrev pub frame_if : Bool → Option (List ℕ) → Option (List ℕ)
frame_if true frame = frame
frame_if false frame = None

-- A frame may be taken of it: it waits for no answer, and its output isn't pending. Of the connection that the server
-- dials frames are taken also while output is pending, since else both servers could wait for each other.
abbrev pub is_heard : Place → Bool
is_heard p = p.live && (not p.finished && ((is_dialled p.door || not p.pending) && is_none p.waits))

-- the whole frame that a place has first
abbrev pub frame_at : (whole : Door → List ℕ → Option ℕ) → Place → Option (List ℕ)
frame_at whole p = frame_if (is_heard p) (front_of p.held (whole p.door p.held))

abbrev pub next_frames : Option ℕ → List ℕ → (List ℕ → List (List ℕ)) → List (List ℕ)
next_frames None held rest = []
next_frames (Some count) held rest = take count held ∷ rest (drop count held)

-- the whole frames that bytes begin with, one behind another, so many at most
abbrev pub frames_of : (whole : List ℕ → Option ℕ) → (most : ℕ) → List ℕ → List (List ℕ)
frames_of whole zero held = []
frames_of whole (suc most) held = next_frames (whole held) held (frames_of whole most)

abbrev pub frames_if : Bool → List (List ℕ) → List (List ℕ)
frames_if true frames = frames
frames_if false frames = []

abbrev pub one_if : Option (List ℕ) → List (List ℕ)
one_if None = []
one_if (Some frame) = frame ∷ []

abbrev pub frames_by : (peer : Bool) → (whole : Door → List ℕ → Option ℕ) → Place → List (List ℕ)
frames_by true whole p = frames_if (is_heard p) (frames_of (whole p.door) (length p.held) p.held)
frames_by false whole p = one_if (frame_at whole p)

-- the whole frames that a round takes of a place: all that the other server sent, and the first one of any other
abbrev pub frames_at : (whole : Door → List ℕ → Option ℕ) → Place → List (List ℕ)
frames_at whole p = frames_by (is_peer p.door) whole p

-- nothing of it is under way: no output is pending, it waits for no answer, and no frame is whole
abbrev pub is_quiet : (whole : Door → List ℕ → Option ℕ) → Place → Bool
is_quiet whole p = not p.pending && (is_none p.waits && is_none (frame_at whole p))

-- for how long it is waited for: for a frame, or with it for its answer
abbrev pub patience_for : Patience → Option Key → ℕ
patience_for patience None = patience.frame
patience_for patience (Some key) = patience.answer

-- it has been waited for too long; the other server is waited for as long as it takes
abbrev pub is_late : Patience → (now : ℕ) → Place → Bool
is_late patience now p = not (is_peer p.door) && nat_le (patience_for patience p.waits) (now - p.since)

-- its time is over: it is late, or no more comes or is taken of it and nothing of it is under way
abbrev pub is_over : (whole : Door → List ℕ → Option ℕ) → Patience → (now : ℕ) → Place → Bool
is_over whole patience now p = ((p.ended || p.finished) && is_quiet whole p) || is_late patience now p

-- its last frame was answered
abbrev pub finished : Place → Place
finished p = record p { finished = true }

-- ---- who waits for what

-- it waits for the answer to this lane's serial
abbrev pub waiting_for : Key → Place → Place
waiting_for key p = record p { waits = Some key }

abbrev pub is_key : Key → Option Key → Bool
is_key key None = false
is_key key (Some other) = (other.lane == key.lane) && (other.serial == key.serial)

abbrev pub waits_for : Key → Place → Bool
waits_for key p = p.live && (not (is_dialled p.door) && is_key key p.waits)

abbrev pub released_if : Bool → Place → Place
released_if true p = record p { finished = true; waits = None }
released_if false p = p

-- another waits for this now: it is closed unanswered, and no more is taken of it
abbrev pub released : Key → Place → Place
released key p = released_if (waits_for key p) p

-- it is the connection that the server dialled
abbrev pub is_linked : Place → Bool
is_linked p = p.live && is_dialled p.door

-- it got the answer that it waited for
abbrev pub replied : ℕ → Place → Place
replied now p = record p { waits = None; pending = true; since = now }

-- What a look at a place does, by what it gives.
abbrev pub Looks : (old new : Option (List Event)) → (place : ℕ) → Taken → (before after : Place) → Type 0
Looks old new place (Bytes n) p q = (bytes : List ℕ) × Adds old new (Came place bytes) × (q ≡ with_bytes bytes p)
Looks old new place Over p q = Adds old new (Ended place) × (q ≡ at_end p)
Looks old new place Pending p q = (is_dialled p.door ≡ false) × Adds old new (Blocked place) × (q ≡ blocked p)
