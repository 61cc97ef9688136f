-- What the record of a reading says before what the box held.
use Rattle.std.specs.Prelude.{ℕ, ◌<◌, ◌^◌, List, ◌∷◌, ◌++◌}
use Rattle.std.specs.Int.{w32, w64, to_be_bytes}
use Rattle.desk_entries.specs.declared.entry.Reading.{Reading}
use Rattle.desk_entries.specs.declared.reading.Front.{Front}
use Rattle.desk_entries.specs.Records.{flag}

-- its bytes: whether it was the last, the serials of the read and of the register, and the time
abbrev pub front_record : Front → List ℕ
front_record f =
    flag f.last ∷ to_be_bytes w32 f.serial ++ to_be_bytes w32 f.registered ++ to_be_bytes w64 f.seconds

-- what a reading says before what the box held
abbrev pub front_of : Reading → Front
front_of r = record { last = r.last; serial = r.serial; registered = r.registered; seconds = r.seconds }

pub record IsFront (f : Front) : Type 0 where
  pub serial : f.serial < 2 ^ 32
  pub registered : f.registered < 2 ^ 32
  pub seconds : f.seconds < 2 ^ 64
