-- Which frames a round takes.
use Rattle.std.specs.Prelude.{◌≡◌, ℕ, ◌+◌, ◌-◌, nat_lt, min, Bool, true, false, not, ◌&&◌, ◌||◌, List, [], ◌∷◌, ◌++◌, length, take, drop}
use Rattle.std.specs.Prelude.{Option, Some, None, unwrap_or, slice_get, slice_set}
use Rattle.many_words.specs.declared.door.Door.{Door}
use Rattle.many_words.specs.Doors.{is_client, is_peer}
use Rattle.many_words.specs.Events.{Entry}
use Rattle.many_conns.specs.declared.batch.Weight.{Weight}
use Rattle.many_conns.specs.declared.batch.Budget.{Budget}
use Rattle.many_conns.specs.Rules.{Rules}
use Rattle.many_conns.specs.Places.{Place, frames_at, frames_if, taken}

-- ---- who is in line

-- a frame that came to a place through this door, with what the server notes of it
abbrev pub entry_of : {S : Type 0} → Rules S → S → ℕ → Door → List ℕ → Entry
entry_of rules s place door frame = record { place = place; door = door; frame = frame; noted = rules.noted s door frame }

abbrev pub entries_of : {S : Type 0} → Rules S → S → ℕ → Door → List (List ℕ) → List Entry
entries_of rules s place door [] = []
entries_of rules s place door (frame ∷ frames) = entry_of rules s place door frame ∷ entries_of rules s place door frames

-- the door is the other server's, or it isn't
abbrev pub is_side : (peers : Bool) → Door → Bool
is_side true door = is_peer door
is_side false door = not (is_peer door)

-- the frames that a round takes of a place, if it is one of the other server, or if it isn't
abbrev pub frames_from : (whole : Door → List ℕ → Option ℕ) → (peers : Bool) → Place → List (List ℕ)
frames_from whole peers p = frames_if (is_side peers p.door) (frames_at whole p)

-- those of each place, by place, from this one on
abbrev pub whole_from : {S : Type 0} → Rules S → S → (peers : Bool) → ℕ → List Place → List Entry
whole_from rules s peers place [] = []
whole_from rules s peers place (p ∷ places) =
    entries_of rules s place p.door (frames_from rules.whole peers p) ++ whole_from rules s peers (place + 1) places

-- those of the clients and the operators, beginning at the place whose turn it is, and around
abbrev pub around : {S : Type 0} → Rules S → S → (turn : ℕ) → List Place → List Entry
around rules s turn places = whole_from rules s false turn (drop turn places) ++ whole_from rules s false 0 (take turn places)

-- the line: all frames of the other server, and behind them those of the others
abbrev pub line : {S : Type 0} → Rules S → S → (turn : ℕ) → List Place → List Entry
line rules s turn places = whole_from rules s true 0 places ++ around rules s turn places

-- ---- who is taken

abbrev pub weight_of : (is_dear : Door → List ℕ → Bool) → Entry → Weight
weight_of is_dear e = record { client = is_client e.door; dear = is_dear e.door e.frame }

abbrev pub fits : Weight → Budget → Bool
fits w left = nat_lt 0 left.frames && ((not w.client || nat_lt 0 left.clients) && (not w.dear || nat_lt 0 left.dear))

abbrev pub less_if : Bool → ℕ → ℕ
less_if true n = n - 1
less_if false n = n

abbrev pub spent : Weight → Budget → Budget
spent w left = record {
  frames = left.frames - 1;
  clients = less_if w.client left.clients;
  dear = less_if w.dear left.dear;
}

abbrev pub cons_if : Bool → Entry → List Entry → List Entry
cons_if true entry entries = entry ∷ entries
cons_if false entry entries = []

-- those of a line that have room, up to the first that has none
abbrev pub admitted : (is_dear : Door → List ℕ → Bool) → Budget → List Entry → List Entry
admitted is_dear left [] = []
admitted is_dear left (e ∷ entries) =
    cons_if (fits (weight_of is_dear e) left) e (admitted is_dear (spent (weight_of is_dear e) left) entries)

abbrev pub place_unless : Bool → ℕ → Option ℕ → Option ℕ
place_unless true place later = later
place_unless false place later = Some place

-- the place of the first that has no room
abbrev pub refused : (is_dear : Door → List ℕ → Bool) → Budget → List Entry → Option ℕ
refused is_dear left [] = None
refused is_dear left (e ∷ entries) =
    place_unless (fits (weight_of is_dear e) left) e.place (refused is_dear (spent (weight_of is_dear e) left) entries)

-- ---- what is left of them

abbrev pub put_some : List Place → ℕ → (Place → Place) → Option Place → List Place
put_some places place f None = places
put_some places place f (Some p) = slice_set places place (f p)

-- each of these frames was taken
abbrev pub all_taken : (now : ℕ) → List Entry → List Place → List Place
all_taken now [] places = places
all_taken now (e ∷ entries) places =
    all_taken now entries (put_some places e.place (taken now (length e.frame)) (slice_get places e.place))

-- A batch as it is filled: the most frames that it holds, those that it has, and what it still takes.
pub record Batch : Type 0 where
  pub room : ℕ
  pub entries : List Entry
  pub left : Budget

abbrev pub offered_if : (fits : Bool) → Weight → Entry → Batch → Batch
offered_if true weight entry b = record b { entries = b.entries ++ entry ∷ []; left = spent weight b.left }
offered_if false weight entry b = b

-- a frame was offered to it
abbrev pub offered : Weight → Entry → Batch → Batch
offered weight entry b = offered_if (fits weight b.left) weight entry b

-- These entries were offered, one after another, up to the first that had no room: what that makes of a batch, whatever
-- is in line behind them.
pub record Offered (is_dear : Door → List ℕ → Bool) (entries : List Entry) (old new : Batch) (stop : Option ℕ) : Type 0 where
  pub room : new.room ≡ old.room
  pub goes_on : stop ≡ None → (more : List Entry)
      → (old.entries ++ admitted is_dear old.left (entries ++ more) ≡ new.entries ++ admitted is_dear new.left more)
      × (refused is_dear old.left (entries ++ more) ≡ refused is_dear new.left more)
  pub stops : (place : ℕ) → stop ≡ Some place → (more : List Entry)
      → (old.entries ++ admitted is_dear old.left (entries ++ more) ≡ new.entries)
      × (refused is_dear old.left (entries ++ more) ≡ Some place)
