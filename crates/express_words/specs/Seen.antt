-- What an object of the outside shows at one moment.
use Rattle.std.specs.Prelude.{ℕ, List, Option, None}
use Rattle.express_words.specs.Calls.{Call}
use Rattle.express_words.specs.Streams.{Stream}

-- Its count of faults; of a source what it gave and has left, of a sink the bytes that it took, and of a
-- net its calls, each where it tells; and of a net how often a listen or an accept failed.
pub record Seen : Type 0 where
  pub faults : ℕ
  pub content : Option Stream
  pub written : Option (List ℕ)
  pub calls : Option (List Call)
  pub doors : ℕ

-- an object that tells its count of faults alone
abbrev pub silent : ℕ → Seen
silent faults = record { faults = faults; content = None; written = None; calls = None; doors = 0 }

-- a source, a sink or a connection, with what it tells of its bytes
abbrev pub streaming : Option Stream → Option (List ℕ) → ℕ → Seen
streaming content written faults =
    record { faults = faults; content = content; written = written; calls = None; doors = 0 }

-- a net, with what it tells of its calls
abbrev pub netted : Option (List Call) → (faults doors : ℕ) → Seen
netted calls faults doors =
    record { faults = faults; content = None; written = None; calls = calls; doors = doors }
