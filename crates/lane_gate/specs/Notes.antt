-- What changes a gate, and the records of it.
use Rattle.std.specs.Prelude.{◌≡◌, ◌<◌, ◌^◌, ℕ, List, ◌∷◌, ◌++◌, length}
use Rattle.std.specs.Int.{w16, w32, to_be_bytes}
use Rattle.lane_gate.specs.declared.note.Note.{Note}
use Rattle.lane_gate.specs.declared.note.Note.TheVariants.{Key, Statement, Lease}

abbrev pub tag_in : Note → ℕ
tag_in (Key lane hash) = 17
tag_in (Statement lane serial hash) = 18
tag_in (Lease lane serial hash) = 19

abbrev pub lane_in : Note → ℕ
lane_in (Key lane hash) = lane
lane_in (Statement lane serial hash) = lane
lane_in (Lease lane serial hash) = lane

-- 0 of a key
abbrev pub serial_in : Note → ℕ
serial_in (Key lane hash) = 0
serial_in (Statement lane serial hash) = serial
serial_in (Lease lane serial hash) = serial

abbrev pub hash_in : Note → List ℕ
hash_in (Key lane hash) = hash.0
hash_in (Statement lane serial hash) = hash.0
hash_in (Lease lane serial hash) = hash.0

-- a lane, a serial, and the 32 bytes of a hash
pub record IsNote (note : Note) : Type 0 where
  pub lane : lane_in note < 2 ^ 16
  pub serial : serial_in note < 2 ^ 32
  pub hash : length (hash_in note) ≡ 32

-- a tag, lane and serial, big-endian, and the hash
abbrev pub note_bytes : ℕ → ℕ → ℕ → List ℕ → List ℕ
note_bytes tag lane serial hash = (tag ∷ to_be_bytes w16 lane) ++ to_be_bytes w32 serial ++ hash

abbrev pub note_record : Note → List ℕ
note_record note = note_bytes (tag_in note) (lane_in note) (serial_in note) (hash_in note)
