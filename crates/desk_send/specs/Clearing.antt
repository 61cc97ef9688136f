-- What a stop left of letters that weren't put in place is removed.
use Rattle.std.specs.Prelude.{◌⊎◌, ℕ, true, false, List, Option, Some}
use Rattle.desk_outside.specs.Calls.{Adds, FolderCall, Looked, Removed}
use Rattle.desk_outside.specs.declared.folder.DeskFile.TheVariants.{NextOutbox}
use Rattle.desk_send.specs.Places.{EachPlace, slot_at}

-- at this place
abbrev pub ClearsOne : {D : Type 0} → (old : Option (List (FolderCall D))) → ℕ
    → (new : Option (List (FolderCall D))) → Type 0
ClearsOne {D} old n new = Adds old new (Looked (NextOutbox (slot_at n)) (Some false))
    ⊎ ((mid : Option (List (FolderCall D))) × Adds old mid (Looked (NextOutbox (slot_at n)) (Some true))
    × Adds mid new (Removed (NextOutbox (slot_at n)) false))

-- the same at each of so many places
abbrev pub Clears : {D : Type 0} → (old : Option (List (FolderCall D))) → ℕ
    → (new : Option (List (FolderCall D))) → Type 0
Clears old n new = EachPlace (λ k before behind. ClearsOne before k behind) old n new
