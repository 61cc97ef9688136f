-- The statuses that each word may have.
use Rattle.std.specs.Prelude.{◌≡◌, ◌≢◌, ◌⊎◌, ℕ, List, [], ◌∷◌, Contains, Some}
use Rattle.clap.specs.Words.{Text}
use Rattle.desk_words.specs.CommandLine.{IsAsked}
use Rattle.desk_words.specs.declared.task.DeskTask.{DeskTask}
use Rattle.desk_words.specs.declared.task.DeskTask.TheVariants as task

-- those where the desk isn't in use: 2 is for a name or a number that isn't taken, 3 for a paper that isn't right, 5 for
-- letters that met
unfoldable pub statuses_of : DeskTask → List ℕ
statuses_of (task.Open pair) = 0 ∷ 1 ∷ 3 ∷ []
statuses_of (task.Box name count until) = 0 ∷ 1 ∷ 2 ∷ []
statuses_of (task.Card name) = 0 ∷ 1 ∷ []
statuses_of (task.Letters out) = 0 ∷ 1 ∷ 5 ∷ []
statuses_of (task.Send card file) = 0 ∷ 1 ∷ 3 ∷ []
statuses_of task.Resume = 0 ∷ 1 ∷ []
statuses_of (task.Retire name now) = 0 ∷ 1 ∷ 5 ∷ []
statuses_of task.Forget = 0 ∷ 1 ∷ 5 ∷ []
statuses_of task.Status = 0 ∷ 1 ∷ []
statuses_of task.Help = 0 ∷ 1 ∷ []
statuses_of (task.Discard number) = 0 ∷ 1 ∷ 2 ∷ []
statuses_of task.Adopt = 0 ∷ 1 ∷ []

-- the word may end with this status, where the desk isn't in use
unfoldable pub MayEnd : DeskTask → ℕ → Type 0
MayEnd t status = Contains (statuses_of t) status

-- the desk is in use, for which each word but the help asks
abbrev pub IsInUse : DeskTask → ℕ → Type 0
IsInUse t status = (status ≡ 4) × (t ≢ task.Help)

-- the status is one of those of the word that is asked for
pub record EndsAsAsked (words : List Text) (status : ℕ) : Type 0 where
  pub task : DeskTask
  pub asked : IsAsked words (Some task)
  pub among : MayEnd task status ⊎ IsInUse task status
