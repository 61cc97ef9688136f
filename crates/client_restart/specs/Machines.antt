-- A client as the machine that its records give.
use Rattle.std.specs.Prelude.{◌≡◌, ℕ, List}
use Rattle.kept_machine.specs.Machines.{Rules}
use Rattle.client_restart.specs.declared.machine.OpenedClient.{OpenedClient}
use Rattle.client_restart.specs.declared.opening.ClientOpening.{ClientOpening}
use Rattle.client_restart.specs.Cores.{HasRoomFor, IsCore, TakesMemory, core_in}
use Rattle.client_restart.specs.Notes.{FitsRecord, IsNote, Noted, note_record}
use Rattle.client_restart.specs.Openings.{IsClientOpening, opening_record}
use Rattle.client_restart.specs.Steps.{opened, step_of}

-- the record is an opening's
pub record IsOpeningRecord (bytes : List ℕ) : Type 0 where
  pub opening : ClientOpening
  pub is_opening : IsClientOpening opening
  pub is : bytes ≡ opening_record opening

-- the record is a note's
pub record IsNoteRecord (bytes : List ℕ) : Type 0 where
  pub note : Noted
  pub whole : IsNote note
  pub is : bytes ≡ note_record note

-- it is the record of this client's opening, and the client stands before its first note
pub record OpensClient (bytes : List ℕ) (k : OpenedClient) : Type 0 where
  pub is : bytes ≡ opening_record k.opening
  pub core : core_in k.core ≡ opened k.opening

-- The record is a note's, and its step was taken.
pub record StepsClient (bytes : List ℕ) (before now : OpenedClient) : Type 0 where
  pub note : Noted
  pub whole : IsNote note
  pub is : bytes ≡ note_record note
  pub step : core_in now.core ≡ step_of (core_in before.core) note
  pub opening : now.opening ≡ before.opening

pub record IsSameClient (before now : OpenedClient) : Type 0 where
  pub core : core_in now.core ≡ core_in before.core
  pub opening : now.opening ≡ before.opening

-- the record is a note's whose step takes memory
pub record WantsMemory (bytes : List ℕ) : Type 0 where
  pub note : Noted
  pub whole : IsNote note
  pub is : bytes ≡ note_record note
  pub memory : TakesMemory note

-- memory was taken for the step of each note whose record this is
abbrev pub HasMemory : OpenedClient → List ℕ → Type 0
HasMemory k bytes =
    (note : Noted) → IsNote note → bytes ≡ note_record note → HasRoomFor k.core note k.room.items

pub record IsSoundClient (k : OpenedClient) : Type 0 where
  pub is_opening : IsClientOpening k.opening
  pub is_core : IsCore k.core

abbrev pub client_rules : Rules OpenedClient
client_rules = record {
  is_opening = IsOpeningRecord;
  is_record = IsNoteRecord;
  opens = OpensClient;
  steps = StepsClient;
  is_same = IsSameClient;
  wants_memory = WantsMemory;
  has_memory = HasMemory;
  is_sound = IsSoundClient;
}

-- a note whose record has room
abbrev pub IsInput : Noted → Type 0
IsInput note = IsNote note × FitsRecord note
