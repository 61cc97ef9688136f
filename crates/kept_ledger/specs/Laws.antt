-- What holds of a ledger, whatever is noted of it.
use Rattle.std.specs.Prelude.{◌≡◌, ◌⊎◌, ◌≤◌, ◌<◌, ℕ, List, [], ◌∷◌, ◌++◌, map, false, length, Some}
use Rattle.std.specs.Prelude.{slice_get}
use Rattle.std.specs.List.{filter, flat_map}
use Rattle.client_restart.specs.Histories.{AreOfOne}
use Rattle.step_rules.specs.Client.{Finished, Message, Registered}
use Rattle.step_rules.specs.ClientAsks.{Sent, owned_by, sends}
use Rattle.step_rules.specs.ClientReplies.{on_reply}
use Rattle.kept_ledger.specs.declared.entry.LedgerBox.{LedgerBox}
use Rattle.kept_ledger.specs.declared.entry.NamedBoxes.{NamedBoxes}
use Rattle.kept_ledger.specs.declared.entry.OwnBox.{OwnBox}
use Rattle.kept_ledger.specs.declared.entry.Reading.{Reading}
use Rattle.kept_ledger.specs.declared.task.Task.TheVariants.{Register, Read, Retire}
use Rattle.kept_ledger.specs.declared.follow.Keeping.{Keeping}
use Rattle.kept_ledger.specs.Follow.{kept_notes, next_serial}
use Rattle.kept_ledger.specs.Tasks.{is_live}
use Rattle.kept_ledger.specs.Ledgers.{LedgerState, are_zeros, is_among, ledger_after, reading_at, task_at}
use Rattle.kept_ledger.specs.Notes.{Opening, Noted, Heard, Owned, Carried}

-- ---- serials

-- serials only rise
abbrev pub SerialsRise : Type 0
SerialsRise = (o : Opening) (notes more : List Noted)
    → (ledger_after o notes).client.serial ≤ (ledger_after o (notes ++ more)).client.serial

-- all frames that are ever sent under one serial are frames of one request
abbrev pub FramesAreOfOneRequest : Type 0
FramesAreOfOneRequest = (o : Opening) (notes more : List Noted) (s t : Sent)
    → sends (ledger_after o notes).client ≡ Some s → sends (ledger_after o (notes ++ more)).client ≡ Some t
    → t.frame.serial ≡ s.frame.serial
    → AreOfOne (ledger_after o notes).client (ledger_after o (notes ++ more)).client

-- ---- what stays

-- pair and seed are those of its opening, and the client draws of that seed on that lane
pub record IsOfOpening (o : Opening) (s : LedgerState) : Type 0 where
  pub pair : s.pair ≡ o.pair
  pub seed : s.seed ≡ o.seed
  pub drawn : s.client.seed ≡ o.seed
  pub lane : s.client.lane ≡ o.pair.lane

abbrev pub LedgersKeepTheirOpening : Type 0
LedgersKeepTheirOpening = (o : Opening) (notes : List Noted) → IsOfOpening o (ledger_after o notes)

-- ---- names

abbrev pub AllDiffer : List ℕ → Type 0
AllDiffer [] = Unit {0}
AllDiffer (a ∷ addresses) = (is_among a addresses ≡ false) × AllDiffer addresses

abbrev pub named_addresses : List NamedBoxes → List ℕ
named_addresses named = flat_map (λ (n : NamedBoxes). n.addresses) named

-- no address stands twice among the named
abbrev pub NoAddressTwice : Type 0
NoAddressTwice = (o : Opening) (notes : List Noted) → AllDiffer (named_addresses (ledger_after o notes).named)

-- ---- readings

-- it stands in the list
abbrev pub Has : {A : Type 0} → List A → A → Type 0
Has xs x = (place : ℕ) × (slice_get xs place ≡ Some x)

-- The note is a frame that ends a read or a retire of this box, with these bytes.
pub record ReadsBox (s : LedgerState) (n : Noted) (b : LedgerBox) (bytes : List ℕ) : Type 0 where
  pub frame : List ℕ
  pub is : n ≡ Heard frame
  pub own : ℕ
  pub asked : (task_at s.client.current ≡ Some (Read own)) ⊎ (task_at s.client.current ≡ Some (Retire own))
  pub box : slice_get s.boxes own ≡ Some b
  pub ends : (on_reply s.client frame).progress ≡ Finished (Message bytes)

-- A frame ended a read of the box at the reading's address with the reading's bytes, which aren't zeros, at
-- the time that was noted last.
pub record IsHeardReading (s : LedgerState) (n : Noted) (r : Reading) : Type 0 where
  pub box : LedgerBox
  pub read : ReadsBox s n box r.bytes
  pub address : r.address ≡ box.address
  pub seconds : r.seconds ≡ s.seconds
  pub told : are_zeros r.bytes ≡ false

-- some note among these, behind those before it
pub record SomeNote (o : Opening) (notes : List Noted) (P : LedgerState → Noted → Type 0) : Type 0 where
  pub before : List Noted
  pub note : Noted
  pub rest : List Noted
  pub split : notes ≡ before ++ note ∷ rest
  pub is : P (ledger_after o before) note

-- it was heard, or an earlier ledger told it
abbrev pub TellsReading : Reading → LedgerState → Noted → Type 0
TellsReading r s n = IsHeardReading s n r ⊎ (n ≡ Carried r)

-- each reading is what a box held
abbrev pub ReadingsAreWhatBoxesHeld : Type 0
ReadingsAreWhatBoxesHeld = (o : Opening) (notes : List Noted) (r : Reading)
    → Has (ledger_after o notes).readings r → SomeNote o notes (TellsReading r)

-- and what a box held, if it wasn't zeros, stands in a reading from then on
abbrev pub NoReadingIsLeftOut : Type 0
NoReadingIsLeftOut = (o : Opening) (before rest : List Noted) (n : Noted) (b : LedgerBox) (bytes : List ℕ)
    → ReadsBox (ledger_after o before) n b bytes → are_zeros bytes ≡ false
    → Has (ledger_after o (before ++ n ∷ rest)).readings
    (reading_at b.address (ledger_after o before).seconds bytes)

-- ---- boxes

abbrev pub own_box : LedgerBox → OwnBox
own_box b = record { number = b.number; serial = b.serial; address = b.address }

-- The note is a frame that gives the box for which its request asked, under the request's serial.
pub record IsHeardBox (s : LedgerState) (n : Noted) (b : OwnBox) : Type 0 where
  pub frame : List ℕ
  pub is : n ≡ Heard frame
  pub asked : task_at s.client.current ≡ Some (Register b.address)
  pub serial : b.serial ≡ s.client.serial
  pub ends : (on_reply s.client frame).progress ≡ Finished (Registered b.number)

-- it was registered, or an earlier ledger owned it
abbrev pub TellsBox : OwnBox → LedgerState → Noted → Type 0
TellsBox b s n = IsHeardBox s n b ⊎ (n ≡ Owned b)

-- each box is one that its register's reply gave
abbrev pub BoxesWereRegistered : Type 0
BoxesWereRegistered = (o : Opening) (notes : List Noted) (b : LedgerBox)
    → Has (ledger_after o notes).boxes b → SomeNote o notes (TellsBox (own_box b))

-- the client's own box of each place is that of the ledger, with the keys of its serial
abbrev pub BoxesAreTheClients : Type 0
BoxesAreTheClients = (o : Opening) (notes : List Noted)
    → (ledger_after o notes).client.owned
    ≡ map (λ (b : LedgerBox). owned_by (ledger_after o notes).client b.number b.serial)
    (ledger_after o notes).boxes

-- ---- a ledger that follows

-- It owns the live boxes of the one that it follows, in order, where its pair has room for them.
abbrev pub FollowersOwnTheLiveBoxes : Type 0
FollowersOwnTheLiveBoxes = (keeping : Keeping) (s : LedgerState) (o : Opening)
    → length (filter is_live s.boxes) ≤ o.pair.boxes
    → (ledger_after o (kept_notes keeping s)).boxes ≡ filter is_live s.boxes

-- no frame was ever sent under the serial from which it goes on, or a later one
abbrev pub NextSerialIsNew : Type 0
NextSerialIsNew = (o : Opening) (notes more : List Noted) (t : Sent)
    → sends (ledger_after o notes).client ≡ Some t
    → t.frame.serial < next_serial (ledger_after o (notes ++ more))
