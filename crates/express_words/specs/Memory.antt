-- What the outside in memory does at each call.
use Rattle.std.specs.Prelude.{◌≡◌, ℕ, ◌+◌, ◌-◌, ◌<◌, ◌≤◌, ◌⊎◌, ◌==◌, Bool, true, false, List, [], ◌∷◌, ◌++◌}
use Rattle.std.specs.Prelude.{take, drop, length, Contains, Option, Some, None, MatchBool}
use Rattle.express_words.specs.Streams.{Stream}
use Rattle.express_words.specs.Calls.{Call, Closed}
use Rattle.express_words.specs.Causes.{next}

-- how many calls were made, the numbers of the calls that are to fail, from 1, and how many failed
pub record Tally : Type 0 where
  pub made : ℕ
  pub failing : List ℕ
  pub faults : ℕ

abbrev pub started : List ℕ → Tally
started failing = record { made = 0; failing = failing; faults = 0 }

-- the call that is made now is to fail
abbrev pub IsListed : Tally → Type 0
IsListed t = Contains t.failing (next t.made)

-- after a call that didn't fail
abbrev pub passed : Tally → Tally
passed t = record { made = next t.made; failing = t.failing; faults = t.faults }

-- after a call that failed
abbrev pub failed : Tally → Tally
failed t = record { made = next t.made; failing = t.failing; faults = next t.faults }

-- one fault more, of no call
abbrev pub faulted : Tally → Tally
faulted t = record { made = t.made; failing = t.failing; faults = next t.faults }

-- the bytes that were given, and those that are left
pub record Supply : Type 0 where
  pub given : List ℕ
  pub left : List ℕ

-- what a source shows of them
abbrev pub shown : Supply → Stream
shown s = record { given = s.given; left = Some s.left }

-- a source that gave some more of its bytes
abbrev pub advanced : ℕ → Supply → Supply
advanced n s = record { given = s.given ++ take n s.left; left = drop n s.left }

pub record SourceState : Type 0 where
  pub content : Supply
  pub tally : Tally

-- the bytes written, and how many more have room
pub record SinkState : Type 0 where
  pub written : List ℕ
  pub room : ℕ
  pub tally : Tally

-- a sink that took these bytes
abbrev pub sink_took : List ℕ → SinkState → SinkState
sink_took bytes s =
    record { written = s.written ++ bytes; room = s.room - length bytes; tally = passed s.tally }

-- a call of it failed
abbrev pub sink_failed : SinkState → SinkState
sink_failed s = record { written = s.written; room = s.room; tally = failed s.tally }

-- bytes were held where they have room, else none
abbrev pub HoldsIfRoom : List ℕ → (old new : List ℕ × ℕ) → Bool → Type 0
HoldsIfRoom bytes old new held =
    MatchBool held ((length bytes ≤ old.1) × (new ≡ (old.0 ++ bytes, old.1 - length bytes)))
    ((old.1 < length bytes) × (new ≡ old))

pub record ConnState : Type 0 where
  pub content : Supply
  pub written : List ℕ
  pub room : ℕ
  pub tally : Tally

-- a connection that gave so many more of its bytes
abbrev pub conn_gave : ℕ → ConnState → ConnState
conn_gave n c =
    record { content = advanced n c.content; written = c.written; room = c.room; tally = passed c.tally }

-- one that took these bytes
abbrev pub conn_took : List ℕ → ConnState → ConnState
conn_took bytes c =
    record {
      content = c.content;
      written = c.written ++ bytes;
      room = c.room - length bytes;
      tally = passed c.tally;
    }

-- a call of it failed
abbrev pub conn_failed : ConnState → ConnState
conn_failed c = record { content = c.content; written = c.written; room = c.room; tally = failed c.tally }

-- The calls so far that were noted and whether that is all of them, how many more calls and bytes of
-- their texts have room, how many connections were given and not closed, and the closed ones.
pub record Ledger : Type 0 where
  pub calls : List Call
  pub whole : Bool
  pub room : ℕ
  pub text_room : ℕ
  pub lent : ℕ
  pub closed : List ConnState

-- the room left is too small for these calls with this many bytes of text
abbrev pub LacksRoom : Ledger → ℕ → ℕ → Type 0
LacksRoom l calls bytes = (l.room < calls) ⊎ (l.text_room < bytes)

abbrev pub told_if : Bool → List Call → Option (List Call)
told_if true calls = Some calls
told_if false calls = None

-- the calls, where all of them were noted
abbrev pub told : Ledger → Option (List Call)
told l = told_if l.whole l.calls

-- one more call was noted, with this many bytes of text
abbrev pub noted : Call → ℕ → Ledger → Ledger
noted call bytes l =
    record {
      calls = l.calls ++ call ∷ [];
      whole = l.whole;
      room = l.room - 1;
      text_room = l.text_room - bytes;
      lent = l.lent;
      closed = l.closed;
    }

-- a call was made that wasn't noted
abbrev pub unnoted : Ledger → Ledger
unnoted l =
    record {
      calls = l.calls;
      whole = false;
      room = l.room;
      text_room = l.text_room;
      lent = l.lent;
      closed = l.closed;
    }

-- a call was noted if there was room for it
pub record NotesIfRoom (call : Call) (bytes : ℕ) (old new : Ledger) : Type 0 where
  pub fits : 1 ≤ old.room → bytes ≤ old.text_room → new ≡ noted call bytes old
  pub lacks : LacksRoom old 1 bytes → new ≡ unnoted old

-- a connection was given, and room kept for its close
abbrev pub lending : Ledger → Ledger
lending l =
    record {
      calls = l.calls;
      whole = l.whole;
      room = l.room - 1;
      text_room = l.text_room;
      lent = l.lent + 1;
      closed = l.closed;
    }

abbrev pub close_of : ConnState → Call
close_of conn = Closed conn.content.given conn.written (conn.tally.faults == 0)

-- a connection was closed and its close noted, with the room that was kept for it
abbrev pub closing : ConnState → Ledger → Ledger
closing conn l =
    record {
      calls = l.calls ++ close_of conn ∷ [];
      whole = l.whole;
      room = l.room;
      text_room = l.text_room;
      lent = l.lent - 1;
      closed = l.closed ++ conn ∷ [];
    }

-- the connections still to be given, the calls so far, and how many of them failed, at the doors too
pub record NetState : Type 0 where
  pub waiting : List ConnState
  pub ledger : Ledger
  pub tally : Tally
  pub doors : ℕ

-- a net that gives these connections, with room for so many calls and bytes of their texts
abbrev pub net_of : List ConnState → (failing : List ℕ) → (calls bytes : ℕ) → NetState
net_of conns failing calls bytes =
    let noting : Ledger = record {
      calls = [];
      whole = true;
      room = calls;
      text_room = bytes;
      lent = 0;
      closed = [];
    } in
    record { waiting = conns; ledger = noting; tally = started failing; doors = 0 }

-- a call of it passed, which left these connections and this ledger
abbrev pub net_passed : List ConnState → Ledger → NetState → NetState
net_passed waiting ledger n =
    record { waiting = waiting; ledger = ledger; tally = passed n.tally; doors = n.doors }

-- a call of it failed, which left this ledger and so many failures at the doors
abbrev pub net_failed : Ledger → (doors : ℕ) → NetState → NetState
net_failed ledger doors n =
    record { waiting = n.waiting; ledger = ledger; tally = failed n.tally; doors = doors }

-- a connection as it is given: at its first byte, with nothing written and no call made
abbrev pub fresh : ConnState → ConnState
fresh c =
    record {
      content = record { given = []; left = c.content.given ++ c.content.left };
      written = [];
      room = length c.written + c.room;
      tally = started c.tally.failing;
    }

-- the first waiting connection was given
abbrev pub GivesFirst : List ConnState → List ConnState → ConnState → Type 0
GivesFirst [] now given = ⊥
GivesFirst (first ∷ others) now given = (now ≡ others) × (given ≡ fresh first)
