-- The server of many connections as a machine that takes the events of its outside one by one.
use Rattle.std.specs.Prelude.{◌≡◌, ℕ, zero, suc, ◌<◌, ◌≤◌, min, Bool, true, false, ◌⊎◌, All}
use Rattle.std.specs.Prelude.{List, [], ◌∷◌, ◌++◌, length, map, Option, Some, None, unwrap_or}
use Rattle.std.specs.Prelude.{slice_get, slice_set}
use Rattle.many_words.specs.declared.door.Door.{Door}
use Rattle.many_words.specs.Doors.{is_dialled, is_peer}
use Rattle.many_words.specs.Events.{Event, Entry, Adds}
use Rattle.many_words.specs.Events.{Waited, Opened, Asked, Came, Ended, Blocked, Closed, Dropped, Logged, LogFailed, Unanswered, Sent, SentAgain}
use Rattle.many_conns.specs.Rules.{Rules, Outcome, after_noted}
use Rattle.many_conns.specs.Places.{Place, empty_place, new_place, vacated, is_free, waited, asked, with_bytes, at_end, blocked, frame_at, frames_at, is_over}
use Rattle.many_conns.specs.declared.patience.Patience.{Patience}
use Rattle.many_conns.specs.declared.batch.Budget.{Budget}
use Rattle.many_conns.specs.Routes.{Sending, resent_at, sending, places_after}
use Rattle.many_conns.specs.Batches.{line, admitted, refused, all_taken}

-- ---- all of them

-- The connections by place, the moment of the last wait, the server, and the frames that are to be answered, in
-- order. A round takes at most so many frames, and so many dear ones among them, from the place on whose turn it is;
-- since the last wait it has taken them, or hasn't.
pub record Hall (S : Type 0) : Type 0 where
  pub patience : Patience
  pub most : ℕ
  pub most_dear : ℕ
  pub now : ℕ
  pub places : List Place
  pub turn : ℕ
  pub served : Bool
  pub server : S
  pub owed : List Entry

-- what a round takes: no more than it may, and of clients as much as the server has room for
abbrev pub budget : {S : Type 0} → Rules S → Hall S → Budget
budget rules h = record { frames = h.most; clients = rules.room h.server; dear = h.most_dear }

-- the whole frames that wait
abbrev pub waiting : {S : Type 0} → Rules S → Hall S → List Entry
waiting rules h = line rules h.server h.turn h.places

-- those of them that a round takes
abbrev pub batch : {S : Type 0} → Rules S → Hall S → List Entry
batch rules h = admitted rules.is_dear (budget rules h) (waiting rules h)

-- whose turn it is behind them: the first that wasn't taken
abbrev pub next_turn : {S : Type 0} → Rules S → Hall S → ℕ
next_turn rules h = unwrap_or (refused rules.is_dear (budget rules h) (waiting rules h)) h.turn

-- the time of a connection isn't over
abbrev pub IsInTime : (whole : Door → List ℕ → Option ℕ) → Patience → (now : ℕ) → Place → Type 0
IsInTime whole patience now p = p.live ≡ true → is_over whole patience now p ≡ false

-- where a connection may come the door was asked since the last wait
abbrev pub IsAsked : Place → Type 0
IsAsked p = is_free p ≡ true → p.asked ≡ true

-- since the last wait a connection was looked at, and where one may come the door was asked
abbrev pub IsLooked : Place → Type 0
IsLooked p = (p.live ≡ true → p.due ≡ false) × IsAsked p

-- it has no whole frame that could be taken
abbrev pub HasNoFrame : (whole : Door → List ℕ → Option ℕ) → Place → Type 0
HasNoFrame whole p = frames_at whole p ≡ []

-- since the last wait a batch was taken, or there was nothing to take
abbrev pub IsServed : {S : Type 0} → Rules S → Hall S → Type 0
IsServed rules h = (h.served ≡ true) ⊎ ((h.owed ≡ []) × All (HasNoFrame rules.whole) h.places)

-- P of the place of this number
abbrev pub IsSomeAt : List Place → ℕ → (Place → Type 0) → Type 0
IsSomeAt places place P = (p : Place) → slice_get places place ≡ Some p → P p

-- of the connections of this door among those seen the one at this place has been waited for the longest
pub record IsOldestAmong (door : Door) (seen places : List Place) (place : ℕ) : Type 0 where
  pub there : place < length places
  pub of : IsSomeAt places place (λ p. p.door ≡ door)
  pub oldest : IsSomeAt places place (λ before. All (λ p. p.door ≡ door → before.since ≤ p.since) seen)

-- so where there is one of this door among them
abbrev pub IsOldestOf : (door : Door) (seen places : List Place) → Option ℕ → Type 0
IsOldestOf door seen places None = All (λ p. p.door ≡ door → ⊥) seen
IsOldestOf door seen places (Some place) = IsOldestAmong door seen places place

-- every place of this door has a connection, and the one of this number has been waited for the longest of them
pub record IsOldestAt (door : Door) (places : List Place) (place : ℕ) : Type 0 where
  pub full : All (λ p. p.door ≡ door → p.live ≡ true) places
  pub oldest : IsOldestAmong door places places place

abbrev pub with_place : {S : Type 0} → Hall S → ℕ → Place → Hall S
with_place h place p = record h { places = slice_set h.places place p }

-- ---- the rules

-- a place where a connection is, and nothing is owed
pub record IsOpenAt {S : Type 0} (h : Hall S) (place : ℕ) (p : Place) : Type 0 where
  pub nothing_owed : h.owed ≡ []
  pub there : slice_get h.places place ≡ Some p
  pub live : p.live ≡ true

-- a place of this door where a connection may come
pub record IsFreeAt {S : Type 0} (h : Hall S) (place : ℕ) (door : Door) (p : Place) : Type 0 where
  pub nothing_owed : h.owed ≡ []
  pub there : slice_get h.places place ≡ Some p
  pub of : p.door ≡ door
  pub free : is_free p ≡ true

-- Nothing is owed, each connection was looked at, what was whole was taken as far as there was room, and nobody's
-- time is over.
pub record IsSettled {S : Type 0} (rules : Rules S) (h : Hall S) : Type 0 where
  pub nothing_owed : h.owed ≡ []
  pub looked : All IsLooked h.places
  pub served : IsServed rules h
  pub in_time : All (IsInTime rules.whole h.patience h.now) h.places

-- the server waits only where all is settled
pub record Waits {S : Type 0} (rules : Rules S) (h : Hall S) (now : ℕ) (t : Hall S) : Type 0 where
  pub settled : IsSettled rules h
  pub is : t ≡ record h { now = now; places = map waited h.places; served = false }

-- a connection is opened where none is, or takes the place of the other server's first one
pub record Opens {S : Type 0} (h : Hall S) (place : ℕ) (door : Door) (t : Hall S) : Type 0 where
  pub before : Place
  pub free : IsFreeAt h place door before
  pub is : t ≡ with_place h place (new_place door h.now)

-- a door has no connection for such a place
pub record Asks {S : Type 0} (h : Hall S) (place : ℕ) (door : Door) (t : Hall S) : Type 0 where
  pub before : Place
  pub free : IsFreeAt h place door before
  pub is : t ≡ with_place h place (asked before)

-- bytes come behind those that came before
pub record Comes {S : Type 0} (h : Hall S) (place : ℕ) (bytes : List ℕ) (t : Hall S) : Type 0 where
  pub before : Place
  pub at : IsOpenAt h place before
  pub is : t ≡ with_place h place (with_bytes bytes before)

-- a connection has no more
pub record Ends {S : Type 0} (h : Hall S) (place : ℕ) (t : Hall S) : Type 0 where
  pub before : Place
  pub at : IsOpenAt h place before
  pub is : t ≡ with_place h place (at_end before)

-- nothing is taken of a connection whose output is pending, unless the server dialled it
pub record Blocks {S : Type 0} (h : Hall S) (place : ℕ) (t : Hall S) : Type 0 where
  pub before : Place
  pub at : IsOpenAt h place before
  pub door : is_dialled before.door ≡ false
  pub is : t ≡ with_place h place (blocked before)

-- a connection is closed only where its time is over
pub record Closes {S : Type 0} (rules : Rules S) (h : Hall S) (place : ℕ) (t : Hall S) : Type 0 where
  pub before : Place
  pub at : IsOpenAt h place before
  pub over : is_over rules.whole h.patience h.now before ≡ true
  pub is : t ≡ with_place h place (empty_place before.door)

-- A connection is dropped for another only where every place of its door has one, and it is one that has been waited
-- for the longest, stood there before the last wait, and has no whole frame. The other server's isn't dropped.
pub record Drops {S : Type 0} (rules : Rules S) (h : Hall S) (place : ℕ) (t : Hall S) : Type 0 where
  pub before : Place
  pub at : IsOpenAt h place before
  pub no_peer : is_peer before.door ≡ false
  pub full : All (λ p. p.door ≡ before.door → p.live ≡ true) h.places
  pub oldest : All (λ p. p.door ≡ before.door → before.since ≤ p.since) h.places
  pub stood : before.asked ≡ false
  pub no_frame : frame_at rules.whole before ≡ None
  pub is : t ≡ with_place h place (vacated before)

-- Once a round the log has the frames that it takes, together, each with what the server notes of it before. From then on their answers are owed, and nothing else.
pub record Logs {S : Type 0} (rules : Rules S) (h : Hall S) (entries : List Entry) (t : Hall S) : Type 0 where
  pub nothing_owed : h.owed ≡ []
  pub once : h.served ≡ false
  pub written : entries ≡ batch rules h
  pub is : t ≡ record h {
    places = all_taken h.now (batch rules h) h.places;
    turn = next_turn rules h;
    served = true;
    owed = batch rules h;
  }

-- what becomes of a frame that was logged
abbrev pub outcome_for : {S : Type 0} → Rules S → S → Entry → Outcome
outcome_for rules s e = rules.says s e.door e.frame e.noted

-- the frame that was logged first is taken
abbrev pub handled : {S : Type 0} → Rules S → Hall S → Entry → List Entry → Hall S
handled rules h first rest = record h {
  places = places_after h.now first.door first.place (outcome_for rules h.server first) h.places;
  owed = rest;
  server = after_noted rules h.server first.noted;
}

-- Only what is owed is sent: what becomes of the frame that was logged first, to the place that it is for.
pub record Sends {S : Type 0} (rules : Rules S) (h : Hall S) (place : ℕ) (bytes : List ℕ) (t : Hall S)
    : Type 0 where
  pub first : Entry
  pub rest : List Entry
  pub owed : h.owed ≡ first ∷ rest
  pub said : sending first.door first.place (outcome_for rules h.server first) h.places
      ≡ Some (record { place = place; bytes = bytes })
  pub is : t ≡ handled rules h first rest

-- The frame that was logged first, which came of this place, has nothing to be sent now.
pub record Leaves {S : Type 0} (rules : Rules S) (h : Hall S) (place : ℕ) (t : Hall S) : Type 0 where
  pub first : Entry
  pub rest : List Entry
  pub owed : h.owed ≡ first ∷ rest
  pub from : first.place ≡ place
  pub said : sending first.door first.place (outcome_for rules h.server first) h.places ≡ None
  pub is : t ≡ handled rules h first rest

-- A log that fails changes nothing: nothing is owed for what it didn't take.
pub record Fails {S : Type 0} (h t : Hall S) : Type 0 where
  pub nothing_owed : h.owed ≡ []
  pub is : t ≡ h

-- one event where no command is to be sent again
abbrev pub Acts : {S : Type 0} → Rules S → Hall S → Event → Hall S → Type 0
Acts rules h (Waited now) t = Waits rules h now t
Acts rules h (Opened place door) t = Opens h place door t
Acts rules h (Asked place door) t = Asks h place door t
Acts rules h (Came place bytes) t = Comes h place bytes t
Acts rules h (Ended place) t = Ends h place t
Acts rules h (Blocked place) t = Blocks h place t
Acts rules h (Closed place) t = Closes rules h place t
Acts rules h (Dropped place) t = Drops rules h place t
Acts rules h (Logged entries) t = Logs rules h entries t
Acts rules h LogFailed t = Fails h t
Acts rules h (Unanswered place) t = Leaves rules h place t
Acts rules h (Sent place bytes) t = Sends rules h place bytes t
Acts rules h (SentAgain place bytes) t = ⊥

-- The server with the commands that are to be sent again before anything else, from the oldest on, and where to.
pub record State (S : Type 0) : Type 0 where
  pub hall : Hall S
  pub again : List Sending

abbrev pub idle : {S : Type 0} → Hall S → State S
idle h = record { hall = h; again = [] }

abbrev pub sending_of : ℕ → List ℕ → Sending
sending_of place bytes = record { place = place; bytes = bytes }

-- what is to be sent again behind an event: each command that is unanswered, on a connection that the server dialled
abbrev pub again_after : {S : Type 0} → Rules S → S → Event → List Sending
again_after rules s (Opened place door) = map (sending_of place) (resent_at door (rules.outstanding s))
again_after rules s e = []

-- the first of the commands that are to be sent again is sent
pub record SendsAgain {S : Type 0} (s : State S) (place : ℕ) (bytes : List ℕ) (t : State S) : Type 0 where
  pub rest : List Sending
  pub first : s.again ≡ sending_of place bytes ∷ rest
  pub is : t ≡ record { hall = s.hall; again = rest }

-- nothing is to be sent again, and an event is right
pub record Goes {S : Type 0} (rules : Rules S) (s : State S) (e : Event) (t : State S) : Type 0 where
  pub nothing_again : s.again ≡ []
  pub acts : Acts rules s.hall e t.hall
  pub again : t.again ≡ again_after rules s.hall.server e

-- one event
abbrev pub Steps : {S : Type 0} → Rules S → State S → Event → State S → Type 0
Steps rules s (SentAgain place bytes) t = SendsAgain s place bytes t
Steps rules s e t = Goes rules s e t

-- events one after another
abbrev pub Runs : {S : Type 0} → Rules S → State S → List Event → State S → Type 0
Runs rules s [] t = t ≡ s
Runs {S} rules s (e ∷ events) t = (m : State S) × Steps rules s e m × Runs rules m events t

-- From old to new the outside had events that lead from the one state to the other.
abbrev pub Leads : {S : Type 0} → Rules S → (old new : Option (List Event)) → Hall S → Hall S → Type 0
Leads rules old None h t = Unit {0}
Leads rules None (Some new) h t = ⊥
Leads rules (Some old) (Some new) h t = (events : List Event) × (new ≡ old ++ events) × Runs rules (idle h) events (idle t)

-- From old to new the server waited, and what came after that was done.
pub record Rounds {S : Type 0} (rules : Rules S) (old new : Option (List Event)) (h t : Hall S) : Type 0 where
  pub between : Option (List Event)
  pub now : ℕ
  pub awake : Hall S
  pub waits : Waits rules h now awake
  pub told : Adds old between (Waited now)
  pub leads : Leads rules between new awake t

-- from old to new so many rounds were made, one after another
abbrev pub RoundsOf : {S : Type 0} → Rules S → ℕ → (old new : Option (List Event)) → Hall S → Hall S → Type 0
RoundsOf rules zero old new h t = (new ≡ old) × (t ≡ h)
RoundsOf {S} rules (suc n) old new h t = (between : Option (List Event)) × (m : Hall S)
    × RoundsOf rules n old between h m × Rounds rules between new m t

-- what stays as it was while connections come, bring bytes and go
pub record Keeps {S : Type 0} (old new : Hall S) : Type 0 where
  pub patience : new.patience ≡ old.patience
  pub now : new.now ≡ old.now
  pub served : new.served ≡ old.served
  pub owed : new.owed ≡ old.owed
  pub count : length new.places ≡ length old.places
