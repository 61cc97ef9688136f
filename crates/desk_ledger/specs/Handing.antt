-- What a new client takes over of an older one, and why it doesn't.
use Rattle.std.specs.Prelude.{◌≡◌, ◌≢◌, ℕ, ◌+◌, ◌<◌, List, [], false, length}
use Rattle.std.specs.List.{filter, sum_by}
use Rattle.node_journal.specs.declared.fault.JournalFault.TheVariants.{Closed, NotEmpty, Full, Disk, Damaged}
use Rattle.kept_machine.specs.declared.fault.KeepFault.{KeepFault}
use Rattle.kept_machine.specs.declared.fault.KeepFault.TheVariants.{Journal, NoMemory, Foreign}
use Rattle.client_restart.specs.declared.owned_box.OwnedBox.{OwnedBox}
use Rattle.client_restart.specs.Kept.{ClientState}
use Rattle.client_restart.specs.Notes.{Owned, Remark, size_of}
use Rattle.desk_entries.specs.declared.entry.Entry.{Entry}
use Rattle.desk_entries.specs.Records.{entry_record}
use Rattle.desk_ledger.specs.Forgetting.{live_boxes}
use Rattle.desk_ledger.specs.Ledgers.{LedgerState}
use Rattle.desk_ledger.specs.Tasks.{is_live}
use Rattle.desk_ledger.specs.declared.fault.ForgetFault.{ForgetFault}
use Rattle.desk_ledger.specs.declared.fault.ForgetFault.TheVariants.{Busy, Spent, Unseen, NoRoom, Keep}

-- the bytes of a box's and of an entry's record in a journal, with the five before each
abbrev pub box_bytes : OwnedBox → ℕ
box_bytes b = 5 + size_of (Owned b.number b.serial)

abbrev pub entry_bytes : Entry → ℕ
entry_bytes e = 5 + size_of (Remark (entry_record e))

-- the bytes of a ledger with these boxes and entries: its opening's record, one of each, and one byte behind
abbrev pub ledger_bytes : List OwnedBox → List Entry → ℕ
ledger_bytes boxes entries = 52 + sum_by box_bytes boxes + sum_by entry_bytes entries + 1

-- So many boxes more, and records of so many bytes.
pub record TakesOver {D : Type 0} (boxes bytes : ℕ) (old new : ClientState D) : Type 0 where
  pub capacity : new.core.client.capacity ≡ old.core.client.capacity
  pub owned : length new.core.client.owned ≡ length old.core.client.owned + boxes
  pub limit : new.journal.limit ≡ old.journal.limit
  pub end : new.journal.end ≡ old.journal.end + bytes
  pub is_open : new.journal.closed ≡ false

-- these of the boxes that are live, with their records
abbrev pub TakesLive : {D : Type 0} → List Entry → List OwnedBox → (old new : ClientState D) → Type 0
TakesLive entries boxes old new = TakesOver (length (filter (is_live entries) boxes))
    (sum_by box_bytes (filter (is_live entries) boxes)) old new

-- The client has no room for so many boxes more, or its journal none for records of so many bytes, a call on
-- its disk failed, or no memory was found.
abbrev pub LacksRoom : {D : Type 0} → (boxes bytes : ℕ) → ClientState D → ForgetFault → Type 0
LacksRoom boxes bytes k NoRoom = k.core.client.capacity < length k.core.client.owned + boxes
LacksRoom boxes bytes k (Keep (Journal (Full end))) = k.journal.limit < k.journal.end + bytes + 1
LacksRoom boxes bytes k (Keep (Journal (Disk faults))) = Unit {0}
LacksRoom boxes bytes k (Keep NoMemory) = Unit {0}
LacksRoom boxes bytes k (Keep (Journal Closed)) = ⊥
LacksRoom boxes bytes k (Keep (Journal NotEmpty)) = ⊥
LacksRoom boxes bytes k (Keep (Journal (Damaged at))) = ⊥
LacksRoom boxes bytes k (Keep (Foreign n)) = ⊥
LacksRoom boxes bytes k Busy = ⊥
LacksRoom boxes bytes k Spent = ⊥
LacksRoom boxes bytes k Unseen = ⊥

-- it has none for these of the boxes that are live
abbrev pub LacksRoomForLive : {D : Type 0} → List Entry → List OwnedBox → ClientState D → ForgetFault → Type 0
LacksRoomForLive entries boxes k fault = LacksRoom (length (filter (is_live entries) boxes))
    (sum_by box_bytes (filter (is_live entries) boxes)) k fault

-- it has none for these boxes and entries
abbrev pub LacksRoomForAll : {D : Type 0} → List OwnedBox → List Entry → ClientState D → ForgetFault → Type 0
LacksRoomForAll boxes entries k fault =
    LacksRoom (length boxes) (sum_by box_bytes boxes + sum_by entry_bytes entries) k fault

-- Why the journal of a ledger with these boxes and entries isn't made on a disk, of which no more than
-- `limit` bytes may be used.
abbrev pub OnKeeping : (limit : ℕ) → (List ℕ → Type 0) → List OwnedBox → List Entry → KeepFault → Type 0
OnKeeping limit reads boxes entries (Journal (Full end)) = limit < ledger_bytes boxes entries
OnKeeping limit reads boxes entries (Journal NotEmpty) = (c : List ℕ) → reads c → c ≢ []
OnKeeping limit reads boxes entries (Journal (Disk faults)) = Unit {0}
OnKeeping limit reads boxes entries NoMemory = Unit {0}
OnKeeping limit reads boxes entries (Journal Closed) = ⊥
OnKeeping limit reads boxes entries (Journal (Damaged at)) = ⊥
OnKeeping limit reads boxes entries (Foreign n) = ⊥

-- the same of a ledger that follows, whose client has room for so many boxes
abbrev pub OnMaking : (capacity limit : ℕ) → (List ℕ → Type 0) → List OwnedBox → List Entry → ForgetFault
    → Type 0
OnMaking capacity limit reads boxes entries NoRoom = capacity < length boxes
OnMaking capacity limit reads boxes entries (Keep fault) = OnKeeping limit reads boxes entries fault
OnMaking capacity limit reads boxes entries other = Unit {0}

-- the same of one that follows this one, with its room and its live boxes
abbrev pub OnFollowing : {D : Type 0} → (limit : ℕ) → (List ℕ → Type 0) → LedgerState D → List Entry
    → ForgetFault → Type 0
OnFollowing limit reads old entries fault =
    OnMaking old.client.opening.capacity limit reads (live_boxes old) entries fault

-- the faults behind the judging of the old ledger
abbrev pub IsOfHandOver : ForgetFault → Type 0
IsOfHandOver NoRoom = Unit {0}
IsOfHandOver (Keep fault) = Unit {0}
IsOfHandOver Busy = ⊥
IsOfHandOver Spent = ⊥
IsOfHandOver Unseen = ⊥
