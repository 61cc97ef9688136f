-- Lists of changes of a table, and what they leave to one lane.
use Rattle.std.specs.Prelude.{◌≡◌, ◌<◌, ◌==◌, ℕ, List, [], ◌∷◌, length, if◌then◌else◌}
use Rattle.lane_table.specs.declared.row.Row.{Row}
use Rattle.lane_table.specs.Table.{Lane, lane_at, with_row, with_reply}

pub data Change : Type 0 where
  Sets : ℕ → Row → Change
  Keeps : ℕ → List ℕ → Change

abbrev pub changed : List Lane → Change → List Lane
changed lanes (Sets lane row) = with_row lanes lane row
changed lanes (Keeps lane reply) = with_reply lanes lane reply

-- the lanes after the changes, the first of them first
abbrev pub after : List Lane → List Change → List Lane
after lanes [] = lanes
after lanes (change ∷ changes) = after (changed lanes change) changes

-- the last row that the changes set to the lane, or else this one
abbrev pub last_row : ℕ → Row → List Change → Row
last_row lane row [] = row
last_row lane row (Sets at set ∷ changes) = last_row lane (if at == lane then set else row) changes
last_row lane row (Keeps at reply ∷ changes) = last_row lane row changes

-- the last reply that the changes keep for the lane, or else this one
abbrev pub last_reply : ℕ → List ℕ → List Change → List ℕ
last_reply lane reply [] = reply
last_reply lane reply (Sets at row ∷ changes) = last_reply lane reply changes
last_reply lane reply (Keeps at kept ∷ changes) = last_reply lane (if at == lane then kept else reply) changes

-- after every list of changes a lane has its own last row and its own last reply
abbrev pub KeepsItsLast : Type 0
KeepsItsLast =
    (lanes : List Lane) (changes : List Change) (lane : ℕ) → lane < length lanes →
    lane_at (after lanes changes) lane ≡ record {
      row = last_row lane (lane_at lanes lane).row changes;
      reply = last_reply lane (lane_at lanes lane).reply changes;
    }

-- after every list of changes there are as many lanes
abbrev pub KeepsTheirNumber : Type 0
KeepsTheirNumber = (lanes : List Lane) (changes : List Change) → length (after lanes changes) ≡ length lanes
