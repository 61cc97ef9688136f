-- A letter on its way as the machine that its records give.
use Rattle.std.specs.Prelude.{◌≡◌, ℕ, List, IfSome}
use Rattle.kept_machine.specs.Machines.{Rules}
use Rattle.kept_letter.specs.declared.machine.KeptLetter.{KeptLetter}
use Rattle.kept_letter.specs.Inside.{IsClientFor}
use Rattle.kept_letter.specs.Letters.{client_for, opened_letter, step_of}
use Rattle.kept_letter.specs.Notes.{Opening, Noted, Text, Begins, Leased, ProofGoes, Heard, Told}
use Rattle.kept_letter.specs.Notes.{FitsRecord, IsNote, IsOpening, note_record, opening_record}

-- the record is an opening's
pub record IsOpeningRecord (bytes : List ℕ) : Type 0 where
  pub opening : Opening
  pub is_opening : IsOpening opening
  pub is : bytes ≡ opening_record opening

-- the record is a note's
pub record IsNoteRecord (bytes : List ℕ) : Type 0 where
  pub note : Noted
  pub whole : IsNote note
  pub is : bytes ≡ note_record note

-- it is an opening's, and the letter stands before its first note
pub record OpensLetter (bytes : List ℕ) (k : KeptLetter) : Type 0 where
  pub opening : Opening
  pub is_opening : IsOpening opening
  pub is : bytes ≡ opening_record opening
  pub letter : k.letter ≡ opened_letter opening

-- it is a note's, and its step was taken
pub record StepsLetter (bytes : List ℕ) (before now : KeptLetter) : Type 0 where
  pub note : Noted
  pub whole : IsNote note
  pub is : bytes ≡ note_record note
  pub step : now.letter ≡ step_of before.letter note

-- a lease takes the memory of a client
abbrev pub TakesMemory : Noted → Type 0
TakesMemory (Leased lane serial) = Unit {0}
TakesMemory (Text bytes) = ⊥
TakesMemory Begins = ⊥
TakesMemory ProofGoes = ⊥
TakesMemory (Heard frame) = ⊥
TakesMemory (Told t) = ⊥

pub record WantsMemory (bytes : List ℕ) : Type 0 where
  pub note : Noted
  pub whole : IsNote note
  pub is : bytes ≡ note_record note
  pub memory : TakesMemory note

-- the client that the lease gives was made ahead
pub record IsAhead (k : KeptLetter) (lane serial : ℕ) : Type 0 where
  pub client : k.ahead ≡ client_for k.letter lane serial
  pub is : IfSome k.ahead (IsClientFor k.letter.plan)

abbrev pub HasMemoryFor : KeptLetter → Noted → Type 0
HasMemoryFor k (Leased lane serial) = IsAhead k lane serial
HasMemoryFor k note = Unit {0}

abbrev pub HasMemory : KeptLetter → List ℕ → Type 0
HasMemory k bytes = (note : Noted) → IsNote note → bytes ≡ note_record note → HasMemoryFor k note

abbrev pub letter_rules : Rules KeptLetter
letter_rules = record {
  is_opening = IsOpeningRecord;
  is_record = IsNoteRecord;
  opens = OpensLetter;
  steps = StepsLetter;
  is_same = λ a b. b.letter ≡ a.letter;
  wants_memory = WantsMemory;
  has_memory = HasMemory;
  is_sound = λ k. Unit {0};
}

-- a note whose record has room
abbrev pub IsInput : Noted → Type 0
IsInput note = IsNote note × FitsRecord note
