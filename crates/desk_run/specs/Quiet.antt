-- The tasks for which nothing is asked of the servers.
use Rattle.std.specs.Prelude.{◌≡◌, Bool, true, false, not, List, Some}
use Rattle.clap.specs.Words.{Text}
use Rattle.desk_words.specs.CommandLine.{IsAsked}
use Rattle.desk_words.specs.declared.task.DeskTask.{DeskTask}
use Rattle.desk_words.specs.declared.task.DeskTask.TheVariants as task

abbrev pub is_quiet : DeskTask → Bool
is_quiet (task.Card name) = true
is_quiet task.Status = true
is_quiet task.Help = true
is_quiet (task.Retire name now) = not now
is_quiet (task.Discard number) = true
is_quiet _ = false

-- the words ask for something for which the servers are needed
abbrev pub AskServers : List Text → Type 0
AskServers words = (t : DeskTask) × IsAsked words (Some t) × (is_quiet t ≡ false)
