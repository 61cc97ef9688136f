-- A try before anything of it is on a disk, and once all is.
use Rattle.std.specs.Prelude.{◌≡◌, ◌≢◌, ◌⊎◌, ◌<◌, ◌≤◌, ℕ, false, List, [], ◌∷◌, ◌++◌, Some, length, slice_get}
use Rattle.rand_core.specs.Stream.{Stream}
use Rattle.node_journal.specs.Disk.{DiskSeen, LeavesOnly}
use Rattle.node_journal.specs.Records.{content, IsUndamaged, LeavesNoByte}
use Rattle.node_journal.specs.declared.fault.JournalFault.TheVariants.{Closed, NotEmpty, Full, Disk, Damaged}
use Rattle.kept_machine.specs.Faults.{CountsFault}
use Rattle.client_restart.specs.Kept.{HoldsNotes, ClientState}
use Rattle.client_restart.specs.Notes.{Noted, Remark}
use Rattle.client_restart.specs.Openings.{IsClientOpening}
use Rattle.client_restart.specs.Records.{records_of}
use Rattle.client_restart.specs.Steps.{fold}
use Rattle.kept_machine.specs.declared.fault.KeepFault.{KeepFault}
use Rattle.kept_machine.specs.declared.fault.KeepFault.TheVariants.{Journal, NoMemory, Foreign}
use Rattle.client_restart.specs.declared.opening.ClientOpening.{ClientOpening}
use Rattle.desk_letters.specs.Letters.{letter_of}
use Rattle.desk_texts.specs.Printing.{printed}
use Rattle.desk_texts.specs.declared.sheet.CardHead.{CardHead}
use Rattle.desk_texts.specs.declared.sheet.Head.TheVariants.{Card}
use Rattle.desk_texts.specs.declared.sheet.Sheet.{Sheet}
use Rattle.desk_outbox.specs.Drawing.{first_in, first_opening, id_in, seed_in}
use Rattle.desk_outbox.specs.Outboxes.{IsOnCard, IsWrite, OutboxState, message_in}
use Rattle.desk_outbox.specs.Places.{address_at, first_place, next_place, place_record}
use Rattle.desk_outbox.specs.Trying.{begun_notes, drawn_for}
use Rattle.desk_outbox.specs.declared.fault.StartFault.{StartFault}
use Rattle.desk_outbox.specs.declared.fault.StartFault.TheVariants as fault
use Rattle.desk_outbox.specs.declared.place.Place.{Place}

-- a try can stand so: at one of the card's addresses, on one of its lanes, with a message for its boxes
pub record IsBegun (card : Sheet) (place : Place) (o : ClientOpening) (message : List ℕ) : Type 0 where
  pub on_card : IsOnCard o card
  pub is_opening : IsClientOpening o
  pub first : place.first < length card.addresses
  pub address : place.address < length card.addresses
  pub few : length card.addresses ≤ 64
  pub fits : length message ≡ o.width

-- A client that was opened so has noted these and nothing else, in an open journal of at most so many bytes.
pub record HasNoted {D : Type 0} (shows : D → DiskSeen) (o : ClientOpening) (notes : List Noted) (most : ℕ)
    (k : ClientState D) : Type 0 where
  pub opening : k.opening ≡ o
  pub core : k.core ≡ fold o notes
  pub held : HoldsNotes o notes (shows k.disk).reads
  pub limit : k.journal.limit ≡ 65536
  pub end : k.journal.end ≤ most
  pub still : k.journal.closed ≡ false

-- the card's text, and the place
abbrev pub front_notes : Sheet → Place → List Noted
front_notes card place = Remark (printed card) ∷ Remark (place_record place) ∷ []

-- its three notes are on the disk
pub record IsNoted {D : Type 0} (shows : D → DiskSeen) (card : Sheet) (place : Place) (o : ClientOpening)
    (message : List ℕ) (k : ClientState D) : Type 0 where
  pub opening : k.opening ≡ o
  pub target : ℕ
  pub there : slice_get card.addresses (address_at (length card.addresses) place) ≡ Some target
  pub core : k.core ≡ fold o (begun_notes card place target message)
  pub held : HoldsNotes o (begun_notes card place target message) (shows k.disk).reads
  pub write : IsWrite o.width k.core.client.current

-- ---- why it isn't begun

-- a call on the disk failed, or no memory was found
abbrev pub IsOfNoting : KeepFault → Type 0
IsOfNoting (Journal (Disk faults)) = Unit {0}
IsOfNoting NoMemory = Unit {0}
IsOfNoting (Journal Closed) = ⊥
IsOfNoting (Journal NotEmpty) = ⊥
IsOfNoting (Journal (Full end)) = ⊥
IsOfNoting (Journal (Damaged at)) = ⊥
IsOfNoting (Foreign n) = ⊥

-- or a byte stood there before
abbrev pub OnBeginning : (List ℕ → Type 0) → KeepFault → Type 0
OnBeginning reads (Journal NotEmpty) = (c : List ℕ) → reads c → c ≢ []
OnBeginning reads (Journal (Disk faults)) = Unit {0}
OnBeginning reads NoMemory = Unit {0}
OnBeginning reads (Journal Closed) = ⊥
OnBeginning reads (Journal (Full end)) = ⊥
OnBeginning reads (Journal (Damaged at)) = ⊥
OnBeginning reads (Foreign n) = ⊥

-- the same, where it is its disk that it isn't on
abbrev pub OnKeep : (List ℕ → Type 0) → StartFault → Type 0
OnKeep reads (fault.Keep why) = OnBeginning reads why
OnKeep reads (fault.Letter why) = Unit {0}
OnKeep reads fault.Spent = Unit {0}

-- The disk's count of faults rose where a fault of it is told, and only there.
abbrev pub CountsStart : ℕ → ℕ → StartFault → Type 0
CountsStart before now (fault.Keep why) = CountsFault before now why
CountsStart before now (fault.Letter why) = now ≡ before
CountsStart before now fault.Spent = now ≡ before

-- ---- what a crash leaves of it

-- the records of the opening and of the first of these notes, all of them or fewer
pub record HasFirst (o : ClientOpening) (notes : List Noted) (records : List (List ℕ)) : Type 0 where
  pub done : List Noted
  pub rest : List Noted
  pub split : notes ≡ done ++ rest
  pub is : records ≡ records_of o done

-- A crash leaves no record, or the opening's with the first of these notes, and nothing that is found
-- damaged, unless it is one byte at most.
abbrev pub LeavesFirst : ClientOpening → List Noted → List ℕ → Type 0
LeavesFirst o notes c = ((content c ≡ []) ⊎ HasFirst o notes (content c))
    × ((length c ≤ 1) ⊎ IsUndamaged 65536 0 c)

-- from the one moment to the other a crash leaves just this of a try
abbrev pub LeavesNoted : Sheet → Place → ClientOpening → List ℕ → (old new : DiskSeen) → Type 0
LeavesNoted card place o message old new = (target : ℕ)
    → slice_get card.addresses (address_at (length card.addresses) place) ≡ Some target
    → LeavesOnly old new (LeavesFirst o (begun_notes card place target message))

-- Where a crash before leaves no byte, one at any moment since then leaves just this of a try.
unfoldable pub BeginsOnly : Sheet → Place → ClientOpening → List ℕ → (old new : DiskSeen) → Type 0
BeginsOnly card place o message old new = (target : ℕ)
    → slice_get card.addresses (address_at (length card.addresses) place) ≡ Some target
    → LeavesNoByte old.may_leave → LeavesOnly old new (LeavesFirst o (begun_notes card place target message))

-- of a first try
abbrev pub StartsOnly : Sheet → (text : List ℕ) → Stream → (old new : DiskSeen) → Type 0
StartsOnly card text s old new = (h : CardHead) → card.head ≡ Card h
    → BeginsOnly card (first_place (first_in h.addresses s)) (first_opening h s)
    (letter_of h.width (id_in s) text) old new

-- how a next try's client is opened
abbrev pub opening_behind : ClientOpening → Stream → (lane serial : ℕ) → ClientOpening
opening_behind o s lane serial = record {
  lane = lane;
  width = o.width;
  capacity = 0;
  first_serial = serial;
  seed = seed_in s;
}

-- of a next try, where a lane and a serial are drawn for it
abbrev pub RetriesOnly : {D : Type 0} → OutboxState D → Stream → (old new : DiskSeen) → Type 0
RetriesOnly last s old new = (h : CardHead) (lane serial : ℕ) → last.card.head ≡ Card h
    → drawn_for h last s ≡ Some (lane, serial)
    → BeginsOnly last.card (next_place last.place) (opening_behind last.kept.opening s lane serial)
    (message_in last.kept.core.client.current) old new
