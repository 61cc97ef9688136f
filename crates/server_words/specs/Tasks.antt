-- The task that a word and the values behind it name.
use Rattle.std.specs.Prelude.{ℕ, if◌then◌else◌, List, codes, Option, Some, None, option_map, bytes_eq}
use Rattle.express_texts.specs.Numbers.{last_number}
use Rattle.server_words.specs.declared.task.ServerTask.{ServerTask}
use Rattle.server_words.specs.declared.task.ServerTask.TheVariants as task

abbrev pub task_of_one : (word value : List ℕ) → Option ServerTask
task_of_one word value =
    if bytes_eq word (codes "run") then Some (task.Run value)
    else if bytes_eq word (codes "status") then Some (task.Status value)
    else if bytes_eq word (codes "check") then Some (task.Check value)
    else None

-- a lane from 0 to 255, in decimal digits without leading zeros
abbrev pub owner_of : (settings digits : List ℕ) → Option ServerTask
owner_of settings digits = option_map (λ lane. task.Owner settings lane) (last_number 0 255 digits)

abbrev pub task_of_two : (word first second : List ℕ) → Option ServerTask
task_of_two word first second = if bytes_eq word (codes "owner") then owner_of first second else None

-- the task of what stands at each place
abbrev pub task_of : (word first second : Option (List ℕ)) → Option ServerTask
task_of (Some word) (Some value) None = task_of_one word value
task_of (Some word) (Some first) (Some second) = task_of_two word first second
task_of (Some word) None second = None
task_of None first second = None
