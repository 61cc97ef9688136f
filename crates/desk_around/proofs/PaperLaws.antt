-- A file that was read.
use Rattle.std.proofs.Common.{ℕ, List}
use Rattle.express_words.specs.Seen.{Seen}
use Rattle.express_words.specs.Streams.{IsAtStart}
use Rattle.input_reading.specs.Reading.{GaveAll}
use Rattle.desk_around.specs.Reading.{IsWholePaper}

pub whole_paper : {P : Type 0} (shows : P → Seen) (before behind : P) (text : List ℕ)
    → IsAtStart (shows before).content → GaveAll (shows before).content (shows behind).content text
    → IsWholePaper shows text
whole_paper shows before behind text start gave =
    record { before = before; behind = behind; start = start; gave = gave }
