-- How the desk's folder is taken.
use Rattle.std.specs.Prelude.{◌≡◌, ◌⊎◌, ℕ, true, false, List, Option, Some}
use Rattle.desk_outside.specs.Calls.{Adds, FolderCall, Held, Looked, Removed}
use Rattle.desk_outside.specs.declared.folder.DeskFile.TheVariants.{NextOutbox}
use Rattle.desk_outside.specs.declared.folder.Hold.TheVariants as hold
use Rattle.desk_words.specs.declared.task.DeskTask.{DeskTask}
use Rattle.desk_words.specs.declared.task.DeskTask.TheVariants as task
use Rattle.desk_run.specs.Finds.{EachPlace}

-- The folder is this process's alone; where it is a copy nothing but adopt is asked.
abbrev pub IsTaken : {D : Type 0} → (old new : Option (List (FolderCall D))) → DeskTask → Type 0
IsTaken old new t = Adds old new (Held (Some hold.Held)) ⊎ (Adds old new (Held (Some hold.Copied)) × (t ≡ task.Adopt))

-- What a stop left of a try at this place that wasn't put in place is removed.
abbrev pub ClearsOne : {D : Type 0} → (old : Option (List (FolderCall D))) → ℕ → (new : Option (List (FolderCall D)))
    → Type 0
ClearsOne {D} old n new = Adds old new (Looked (NextOutbox (record { number = n })) (Some false))
    ⊎ ((mid : Option (List (FolderCall D))) × Adds old mid (Looked (NextOutbox (record { number = n })) (Some true))
    × Adds mid new (Removed (NextOutbox (record { number = n })) false))

-- the same at each of so many places
abbrev pub Clears : {D : Type 0} → (old : Option (List (FolderCall D))) → ℕ → (new : Option (List (FolderCall D)))
    → Type 0
Clears old n new = EachPlace (λ k before behind. ClearsOne before k behind) old n new
