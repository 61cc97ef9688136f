-- An owner's ledger as the machine that its records give.
use Rattle.std.specs.Prelude.{◌≡◌, ℕ, ◌<◌, List, length, Some}
use Rattle.kept_machine.specs.Machines.{Rules}
use Rattle.kept_ledger.specs.declared.machine.KeptLedger.{KeptLedger}
use Rattle.kept_ledger.specs.Inside.{LedgerSeen}
use Rattle.kept_ledger.specs.Ledgers.{boxes_wanted, opened_ledger, step_of}
use Rattle.kept_ledger.specs.Notes.{Opening, Noted, Named, Marked, Heard}
use Rattle.kept_ledger.specs.Notes.{Owned, Denied, Carried}
use Rattle.kept_ledger.specs.Notes.{FitsRecord, IsNote, IsOpening, note_record, opening_record}

-- the record is an opening's
pub record IsOpeningRecord (bytes : List ℕ) : Type 0 where
  pub opening : Opening
  pub is_opening : IsOpening opening
  pub is : bytes ≡ opening_record opening

-- the record is a note's
pub record IsNoteRecord (bytes : List ℕ) : Type 0 where
  pub note : Noted
  pub whole : IsNote note
  pub is : bytes ≡ note_record note

-- it is an opening's, and the ledger stands before its first note
pub record OpensLedger (bytes : List ℕ) (k : KeptLedger) : Type 0 where
  pub opening : Opening
  pub is_opening : IsOpening opening
  pub is : bytes ≡ opening_record opening
  pub ledger : k.ledger.state ≡ opened_ledger opening

-- it is a note's, and its step was taken
pub record StepsLedger (bytes : List ℕ) (before now : KeptLedger) : Type 0 where
  pub note : Noted
  pub whole : IsNote note
  pub is : bytes ≡ note_record note
  pub step : now.ledger.state ≡ step_of before.ledger.state note

-- the note takes memory
abbrev pub TakesMemory : Noted → Type 0
TakesMemory (Named w) = Unit {0}
TakesMemory (Marked m) = Unit {0}
TakesMemory (Heard frame) = Unit {0}
TakesMemory (Owned b) = Unit {0}
TakesMemory (Denied d) = Unit {0}
TakesMemory (Carried r) = Unit {0}
TakesMemory note = ⊥

pub record WantsMemory (bytes : List ℕ) : Type 0 where
  pub note : Noted
  pub whole : IsNote note
  pub is : bytes ≡ note_record note
  pub memory : TakesMemory note

-- memory for one more of each that a reply may leave
pub record HasReplyRoom (l : LedgerSeen) : Type 0 where
  pub boxes : length l.state.boxes < l.room.boxes
  pub denied : length l.state.denied < l.room.denied
  pub readings : length l.state.readings < l.room.readings

-- Memory for a note: the name's boxes were made ahead; for a frame there is room for one message; for a
-- reading that is carried over there are its bytes; and the lists have room for one more.
abbrev pub HasMemoryFor : KeptLedger → Noted → Type 0
HasMemoryFor k (Named w) =
    (k.name ≡ Some (boxes_wanted w)) × (length k.ledger.state.named < k.ledger.room.named)
HasMemoryFor k (Marked m) = length k.ledger.state.marks < k.ledger.room.marks
HasMemoryFor k (Heard frame) = (length k.bytes.items ≡ k.ledger.state.pair.width) × HasReplyRoom k.ledger
HasMemoryFor k (Owned b) = length k.ledger.state.boxes < k.ledger.room.boxes
HasMemoryFor k (Denied d) = length k.ledger.state.denied < k.ledger.room.denied
HasMemoryFor k (Carried r) =
    (k.bytes.items ≡ r.bytes) × (length k.ledger.state.readings < k.ledger.room.readings)
HasMemoryFor k note = Unit {0}

abbrev pub HasMemory : KeptLedger → List ℕ → Type 0
HasMemory k bytes = (note : Noted) → IsNote note → bytes ≡ note_record note → HasMemoryFor k note

abbrev pub ledger_rules : Rules KeptLedger
ledger_rules = record {
  is_opening = IsOpeningRecord;
  is_record = IsNoteRecord;
  opens = OpensLedger;
  steps = StepsLedger;
  is_same = λ a b. b.ledger.state ≡ a.ledger.state;
  wants_memory = WantsMemory;
  has_memory = HasMemory;
  is_sound = λ k. Unit {0};
}

-- a note whose record has room
abbrev pub IsInput : Noted → Type 0
IsInput note = IsNote note × FitsRecord note
