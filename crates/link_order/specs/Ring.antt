-- Numbered frames in blocks that are used in turn.
use Rattle.std.specs.Prelude.{ℕ, ◌+◌, ◌%◌, List, [], ◌∷◌, ◌++◌, take, drop, slice_index_or}
use Rattle.link_order.specs.Link.{Outstanding, Carried, last}

-- how many frames were put in, the most that are held, the most bytes of one, and the last ones, oldest first
pub record Held : Type 0 where
  pub pushed : ℕ
  pub window : ℕ
  pub size : ℕ
  pub frames : List (List ℕ)

-- one frame more, in the place of the oldest one where as many as the window are held
abbrev pub with_pushed : Held → List ℕ → Held
with_pushed ring frame = record {
  pushed = ring.pushed + 1;
  window = ring.window;
  size = ring.size;
  frames = last ring.window (ring.frames ++ frame ∷ []);
}

-- without the oldest frame
abbrev pub with_popped : Held → Held
with_popped ring = record {
  pushed = ring.pushed;
  window = ring.window;
  size = ring.size;
  frames = drop 1 ring.frames;
}

-- the frames of these lengths, the first of which has this number;
-- a frame stands in the block of its number modulo the window
abbrev pub frames_from : List (List ℕ) → ℕ → ℕ → List ℕ → List (List ℕ)
frames_from blocks window number [] = []
frames_from blocks window number (n ∷ lengths) =
    take n (slice_index_or blocks (number % window) []) ∷ frames_from blocks window (number + 1) lengths

-- frames that wait, as commands
abbrev pub outstanding_in : Held → Outstanding
outstanding_in ring = record {
  next = ring.pushed + 1;
  window = ring.window;
  size = ring.size;
  frames = ring.frames;
}

-- frames that are kept, as replies
abbrev pub carried_in : Held → Carried
carried_in ring = record {
  carried = ring.pushed;
  window = ring.window;
  size = ring.size;
  replies = ring.frames;
}
