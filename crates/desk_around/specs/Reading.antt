-- A file that was read.
use Rattle.std.specs.Prelude.{ℕ, List}
use Rattle.express_words.specs.Seen.{Seen}
use Rattle.express_words.specs.Streams.{IsAtStart}
use Rattle.input_reading.specs.Reading.{GaveAll}

-- A file, from its first byte on, gave this text and has no more.
pub record IsWholePaper {P : Type 0} (shows : P → Seen) (text : List ℕ) : Type 0 where
  pub before : P
  pub behind : P
  pub start : IsAtStart (shows before).content
  pub gave : GaveAll (shows before).content (shows behind).content text
