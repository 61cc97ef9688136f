-- What a client has at every moment: its current request, its own boxes, and what waits.
use Rattle.std.specs.Prelude.{◌≡◌, ◌<◌, ◌≤◌, ◌⊎◌, ℕ, zero, suc, Bool, false, List, [], ◌∷◌, ◌++◌, length}
use Rattle.std.specs.Prelude.{take, Some, slice_get}
use Rattle.mailbox_rules.specs.Requests.{Request, Register, Read, Retire, Registers, Entry, Line, lines_of}
use Rattle.mailbox_rules.specs.Requests.{opening_of, request_at}
use Rattle.mailbox_rules.specs.Tables.{Mailbox, Registered, Result, Writes, result_of}
use Rattle.mailbox_rules.specs.Laws.{OwnBox}
use Rattle.mailbox_rules.specs.Owned.{own_below}
use Rattle.token_rules.specs.Tokens.{Oracle, World, start}
use Rattle.token_rules.specs.Run.{Ask, Event, line_of, run, sent_of}
use Rattle.token_rules.specs.Laws.{asked_by, table_at, turn}

-- the last request that a client sent is that of its serial, and opens with its lane's command
pub record LastRequest (w : World) (c : ℕ) : Type 0 where
  pub request : Request
  pub is : request_at (sent_of w) c (w.lanes c).serial ≡ Some request
  pub last : length (sent_of w c) ≡ (w.lanes c).serial
  pub opening : (w.lanes c).opening ≡ opening_of request

abbrev pub OpeningsAreSent : World → Type 0
OpeningsAreSent w = (c : ℕ) → w.foreign c ≡ false → 0 < (w.lanes c).serial → LastRequest w c

-- a client with a current request has sent one
abbrev pub StepsAreNumbered : World → Type 0
StepsAreNumbered w = (c : ℕ) → w.foreign c ≡ false → 0 < (w.lanes c).step → 0 < (w.lanes c).serial

-- a client with no current request has none that waits
abbrev pub NoneWaits : World → Type 0
NoneWaits w = (c : ℕ) → w.foreign c ≡ false → (w.lanes c).step ≡ 0 → (w.requests c).waiting ≡ []

-- a read or retire that was sent is of a box that its client got
abbrev pub Reaches : List ℕ → Request → Type 0
Reaches got (Read own) = (n : ℕ) × (slice_get got own ≡ Some n)
Reaches got (Retire own) = (n : ℕ) × (slice_get got own ≡ Some n)
Reaches got request = Unit {0}

abbrev pub RequestsReach : World → Type 0
RequestsReach w = (c i : ℕ) (request : Request) → slice_get (sent_of w c) i ≡ Some request
    → Reaches (w.table.got c) request

-- no command of a client was issued twice
abbrev pub CommandsOnce : World → Type 0
CommandsOnce w = (i k : ℕ) (x : Line) → slice_get w.commands i ≡ Some x → slice_get w.commands k ≡ Some x
    → w.foreign x.lane ≡ false → i ≡ k

-- of two commands of one client the later has a greater serial, or is a later command of the same request
abbrev pub CommandsInOrder : World → Type 0
CommandsInOrder w = (i k : ℕ) (x y : Line) → i < k → slice_get w.commands i ≡ Some x
    → slice_get w.commands k ≡ Some y → x.lane ≡ y.lane → w.foreign x.lane ≡ false
    → (x.serial < y.serial) ⊎ ((x.serial ≡ y.serial) × (turn x.command < turn y.command))

-- The serials below which a client has the answers to its requests. So it has all of its boxes that were
-- registered with those.
abbrev pub answered_below : ℕ → ℕ → ℕ
answered_below zero serial = suc serial
answered_below (suc step) serial = serial

-- a client's own boxes, of those in the table
abbrev pub owned_by : World → ℕ → List ℕ
owned_by w c = own_below c (answered_below (w.lanes c).step (w.lanes c).serial) 0 w.table.boxes

-- the box that a client's last request registered
pub record NewBox (w : World) (c : ℕ) : Type 0 where
  pub number : ℕ
  pub box : Mailbox
  pub is : slice_get w.table.boxes number ≡ Some box
  pub owner : box.lane ≡ c
  pub serial : box.serial ≡ (w.lanes c).serial
  pub asked : request_at (sent_of w) c (w.lanes c).serial ≡ Some (Register box.address)
  pub got : w.table.got c ≡ own_below c (w.lanes c).serial 0 w.table.boxes ++ number ∷ []

-- All boxes that a client's lane got have serials up to its own. Those with serials below any other one are
-- the first of them. The last is that of the client's last request, or all have serials below it.
pub record OwnsBoxes (w : World) (c : ℕ) : Type 0 where
  pub all : own_below c (suc (w.lanes c).serial) 0 w.table.boxes ≡ w.table.got c
  pub first : (serial : ℕ) → own_below c serial 0 w.table.boxes
      ≡ take (length (own_below c serial 0 w.table.boxes)) (w.table.got c)
  pub last : (own_below c (w.lanes c).serial 0 w.table.boxes ≡ w.table.got c) ⊎ NewBox w c

abbrev pub OwnBoxesAreFirst : World → Type 0
OwnBoxesAreFirst w = (c : ℕ) → w.foreign c ≡ false → OwnsBoxes w c

-- So a client has all boxes that its lane got, unless its current request is a register.
abbrev pub ClientsOwn : World → Type 0
ClientsOwn w = (c : ℕ) → w.foreign c ≡ false
    → (0 < (w.lanes c).step → (address : ℕ)
    → request_at (sent_of w) c (w.lanes c).serial ≡ Some (Register address) → ⊥)
    → owned_by w c ≡ w.table.got c

-- no lane gets more boxes than the limit
abbrev pub GotIsFew : World → Type 0
GotIsFew w = (c : ℕ) → length (w.table.got c) ≤ w.limit

-- The register of a client's last request tells what its lane got by it: the box of that number, after all
-- others, or none.
pub record RegisterTells (w : World) (c : ℕ) (result : Result) : Type 0 where
  pub registered : (n : ℕ) → result ≡ Registered n
      → w.table.got c ≡ own_below c (w.lanes c).serial 0 w.table.boxes ++ n ∷ []
  pub refused : ((n : ℕ) → result ≡ Registered n → ⊥)
      → w.table.got c ≡ own_below c (w.lanes c).serial 0 w.table.boxes

abbrev pub RegistersTell : World → Type 0
RegistersTell w = (writes : Writes) (i c : ℕ) (e : Entry) → slice_get w.journal i ≡ Some e
    → w.foreign c ≡ false → e.line ≡ line_of c (w.lanes c).serial Registers
    → RegisterTells w c (result_of w.limit writes (table_at w i) e.line e.does)

-- until it is carried out, its lane got only what the client has
abbrev pub UnregisteredOwn : World → Type 0
UnregisteredOwn w = (c : ℕ) → w.foreign c ≡ false
    → ((i : ℕ) → slice_get (lines_of w.journal) i ≡ Some (line_of c (w.lanes c).serial Registers) → ⊥)
    → own_below c (w.lanes c).serial 0 w.table.boxes ≡ w.table.got c

-- each box that a lane got stands in the table, and is the lane's
abbrev pub GotStands : World → Type 0
GotStands w = (c k n : ℕ) → slice_get (w.table.got c) k ≡ Some n → OwnBox w.table c n

-- all requests that wait or were sent are of a kind
pub record RequestsAre (P : ℕ → Request → Type 0) (w : World) : Type 0 where
  pub sent : (c i : ℕ) (request : Request) → slice_get (sent_of w c) i ≡ Some request → P c request
  pub waiting : (c i : ℕ) (request : Request) → slice_get (w.requests c).waiting i ≡ Some request
      → P c request

-- a schedule asks clients for requests of that kind alone
abbrev pub Asks : (ℕ → Bool) → (ℕ → Request → Type 0) → Event → Type 0
Asks foreign P (Ask c request) = foreign c ≡ false → P c request
Asks foreign P event = Unit {0}

abbrev pub AllAsk : (ℕ → Bool) → (ℕ → Request → Type 0) → List Event → Type 0
AllAsk foreign P [] = Unit {0}
AllAsk foreign P (event ∷ events) = Asks foreign P event × AllAsk foreign P events

-- a client was asked that request
abbrev pub WasAsked : List Event → ℕ → Request → Type 0
WasAsked events c request = (i : ℕ) × (slice_get (asked_by c events) i ≡ Some request)

-- The requests that were sent and those that wait were asked, so what holds of all that were asked holds of
-- them.
abbrev pub RequestsWereAsked : Type 0
RequestsWereAsked = (o : Oracle) (width limit window : ℕ) (foreign : ℕ → Bool) (events : List Event)
    → 0 < window → RequestsAre (WasAsked events) (run o (start width limit window foreign) events)
