-- A ledger read from what holds it.
use Rattle.std.specs.Prelude.{◌≡◌, ◌≢◌, ℕ, ◌<◌, ◌^◌, None, vec_capacity}
use Rattle.kept_ledger.specs.declared.ledger.Ledger.TheInside.{Inside}
use Rattle.kept_ledger.specs.Ledgers.{LedgerState}
use Rattle.kept_ledger.specs.Notes.{IsPair}

-- for how many elements each of its lists has memory
pub record Room : Type 0 where
  pub named : ℕ
  pub boxes : ℕ
  pub denied : ℕ
  pub readings : ℕ
  pub marks : ℕ

-- what it is, and the memory that it has taken
pub record LedgerSeen : Type 0 where
  pub state : LedgerState
  pub room : Room

abbrev pub state_in : Inside → LedgerState
state_in a = record {
  pair = a.pair;
  seed = a.seed;
  client = a.client;
  named = a.named.items;
  boxes = a.boxes.items;
  denied = a.denied.items;
  readings = a.readings.items;
  marks = a.marks.items;
  seconds = a.seconds;
  refused = a.refused;
}

abbrev pub room_in : Inside → Room
room_in a = record {
  named = vec_capacity a.named;
  boxes = vec_capacity a.boxes;
  denied = vec_capacity a.denied;
  readings = vec_capacity a.readings;
  marks = vec_capacity a.marks;
}

abbrev pub ledger_in : Inside → LedgerSeen
ledger_in a = record { state = state_in a; room = room_in a }

-- the client's messages are as wide as the pair's boxes, and a current request has a serial
pub record IsInside (a : Inside) : Type 0 where
  pub pair : IsPair a.pair
  pub width : a.client.width ≡ a.pair.width
  pub unspent : a.client.current ≢ None → a.client.serial < 2 ^ 32
