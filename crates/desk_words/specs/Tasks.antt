-- The task that values name.
use Rattle.std.specs.Prelude.{◌≡◌, ℕ, Option, Some, None}
use Rattle.std.specs.Fmt.{decimal}
use Rattle.clap.specs.Words.{Text}
use Rattle.desk_words.specs.CommandLine.{IsUpTo, Names, Said, SaysCount}
use Rattle.desk_words.specs.declared.task.DeskTask.{DeskTask}

-- the number from 1 on, and not above `most`, whose decimal digits these are, if any
abbrev pub IsNumberOf : (most : ℕ) → Text → Option ℕ → Type 0
IsNumberOf most text (Some n) = (text ≡ decimal n) × IsUpTo most n
IsNumberOf most text None = (n : ℕ) → IsUpTo most n → text ≡ decimal n → ⊥

-- the number of addresses that these digits say, if any
abbrev pub IsCountOf : Option Text → Option ℕ → Type 0
IsCountOf digits (Some n) = SaysCount digits n
IsCountOf digits None = (n : ℕ) → SaysCount digits n → ⊥

-- the task that these values name, if any
abbrev pub IsTaskOf : Said → Option DeskTask → Type 0
IsTaskOf s (Some t) = Names s t
IsTaskOf s None = (t : DeskTask) → Names s t → ⊥
