-- What is around a run.
use Rattle.std.specs.Prelude.{◌≡◌, ℕ, List}
use Rattle.express_words.specs.Streams.{Took}
pub use Rattle.express_words.specs.Streams.{left_in}
use Rattle.input_reading.specs.Reading.{GaveAll, GaveSome, LastFailed}
pub use Rattle.express_words.specs.Seen.{Seen}
pub use Rattle.node_serve.specs.Visits.{Shown}

-- what is around a run: the seed that it is handed, its net before and now, and what its net's connections
-- may show
pub record Around : Type 1 where
  pub seed : List ℕ
  pub before : Seen
  pub now : Seen
  pub shown : Seen → Type 0

-- a net before a call and after it, whose connections show themselves so
abbrev pub over : {N C : Type 0} → (N → Seen) → (C → Seen) → List ℕ → (old new : N) → Around
over seen shows seed old new = record { seed = seed; before = seen old; now = seen new; shown = Shown shows }

-- an input and a sink, before a run and now
pub record Streams : Type 0 where
  pub input : Seen
  pub input_now : Seen
  pub out : Seen
  pub out_now : Seen

abbrev pub streams : {S K : Type 0} → (S → Seen) → (K → Seen) → (input input_now : S) → (out out_now : K)
    → Streams
streams seen shows input input_now out out_now =
    record { input = seen input; input_now = seen input_now; out = shows out; out_now = shows out_now }

-- the input gave all its bytes, and they are these
abbrev pub Read : Streams → List ℕ → Type 0
Read streams bytes = GaveAll streams.input.content streams.input_now.content bytes

-- it gave so many bytes
abbrev pub ReadSome : Streams → (ℕ → Type 0) → Type 0
ReadSome streams P = GaveSome streams.input.content streams.input_now.content P

-- it wasn't read
abbrev pub IsUnread : Streams → Type 0
IsUnread streams = streams.input_now.content ≡ streams.input.content

-- the sink took this text
abbrev pub Wrote : Streams → List ℕ → Type 0
Wrote streams text = Took streams.out.written streams.out_now.written text

-- A call of an input was the last and failed, and none had failed before it.
abbrev pub FailedLast : {S : Type 0} → (S → Seen) → (old new : S) → Type 0
FailedLast {S} seen old new = (last : S)
    × LastFailed (seen old).faults (seen last).faults (seen new).faults (seen last).content (seen new).content
