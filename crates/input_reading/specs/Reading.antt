-- Reading an input to its end.
use Rattle.std.specs.Prelude.{◌≡◌, ℕ, ◌+◌, ◌≤◌, ◌<◌, List, [], length, Option, Some, None}
use Rattle.express_words.specs.Causes.{Rose, next}
use Rattle.express_words.specs.Seen.{Seen}
use Rattle.express_words.specs.Streams.{Stream, Gave, IsAtEnd}
use Rattle.input_reading.specs.declared.reading.InputFault.{InputFault}
use Rattle.input_reading.specs.declared.reading.InputFault.TheVariants.{Failed, TooLong, NoMemory}

-- at most so many bytes are read
abbrev pub most_bytes : ℕ
most_bytes = 67108864

-- the source gave these bytes, has no more, and they aren't too many
pub record GaveAll (old new : Option Stream) (bytes : List ℕ) : Type 0 where
  pub gave : Gave old new bytes
  pub end : IsAtEnd new
  pub short : length bytes ≤ most_bytes

-- the source gave some number of bytes
abbrev pub GaveSome : Option Stream → Option Stream → (ℕ → Type 0) → Type 0
GaveSome old new P = (bytes : List ℕ) × Gave old new bytes × P (length bytes)

-- a source that tells its bytes gave more than are read
abbrev pub GaveMore : Option Stream → Option Stream → Type 0
GaveMore None new = ⊥
GaveMore (Some old) None = ⊥
GaveMore (Some old) (Some new) = length old.given + most_bytes < length new.given

-- A call of a source failed and was the last: no call before it had failed, it counted one fault and gave
-- nothing.
pub record LastFailed (start before now : ℕ) (from to : Option Stream) : Type 0 where
  pub unfailed : before ≡ start
  pub one_more : now ≡ next before
  pub nothing : Gave from to []

-- the same, of what the source shows at the start, before its last call and after it
abbrev pub LastTakeFailed : Seen → Seen → Seen → Type 0
LastTakeFailed start last now =
    LastFailed start.faults last.faults now.faults last.content now.content

-- Why reading stopped before the end, and what the source gave until then. Of want of memory nothing is said.
abbrev pub Stopped : Option Stream → Option Stream → ℕ → ℕ → InputFault → Type 0
Stopped old new before now Failed = Rose before now × GaveSome old new (λ n. n ≤ most_bytes)
Stopped old new before now TooLong = GaveSome old new (λ n. n ≡ most_bytes + 1)
Stopped old new before now NoMemory = Unit {0}
