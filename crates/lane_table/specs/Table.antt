-- A table of lanes as a caller sees it: of each lane its row and the reply that is kept.
use Rattle.std.specs.Prelude.{ℕ, List, [], replicate, slice_index_or, slice_set}
use Rattle.lane_table.specs.declared.row.Row.{Row}
use Rattle.lane_table.specs.declared.row.Want.TheVariants.{Nothing}

pub record Lane : Type 0 where
  pub row : Row
  pub reply : List ℕ

-- the lanes by their numbers, and how many bytes a kept reply may have
pub record Table : Type 0 where
  pub room : ℕ
  pub lanes : List Lane

-- a lane of which no frame has come
abbrev pub idle : Lane
idle = record { row = record { serial = 0; phase = 0; want = Nothing }; reply = [] }

abbrev pub idle_table : ℕ → ℕ → Table
idle_table lanes room = record { room = room; lanes = replicate lanes idle }

abbrev pub lane_at : List Lane → ℕ → Lane
lane_at lanes lane = slice_index_or lanes lane idle

-- the lanes with another row at one of them, and the same elsewhere
abbrev pub with_row : List Lane → ℕ → Row → List Lane
with_row lanes lane row = slice_set lanes lane (record { row = row; reply = (lane_at lanes lane).reply })

-- the lanes with another kept reply at one of them, and the same elsewhere
abbrev pub with_reply : List Lane → ℕ → List ℕ → List Lane
with_reply lanes lane reply = slice_set lanes lane (record { row = (lane_at lanes lane).row; reply = reply })

abbrev pub table_of : ℕ → List Lane → Table
table_of room lanes = record { room = room; lanes = lanes }
