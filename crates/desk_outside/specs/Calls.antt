-- The calls on a desk's folder.
use Rattle.std.specs.Prelude.{◌≡◌, Bool, List, [], ◌∷◌, ◌++◌, Option, Some, None, Result, Ok, Err}
use Rattle.desk_outside.specs.declared.folder.DeskFile.{DeskFile}
use Rattle.desk_outside.specs.declared.folder.Hold.{Hold}

-- A call on the folder, with its files: whether it failed, or else what it gave, None where it failed.
pub data FolderCall (D : Type 0) : Type 0 where
  Held : Option Hold → FolderCall D
  Looked : DeskFile → Option Bool → FolderCall D
  Opened : DeskFile → Option D → FolderCall D
  Placed : DeskFile → DeskFile → Bool → FolderCall D
  Removed : DeskFile → Bool → FolderCall D
  Adopted : Bool → FolderCall D

-- what a call gave
abbrev pub given : {A E : Type 0} → Result A E → Option A
given (Ok value) = Some value
given (Err why) = None

-- From old to new one call was made. A folder that tells its calls now told them before; of one that doesn't
-- tell them now nothing is said.
abbrev pub Adds : {D : Type 0} → Option (List (FolderCall D)) → Option (List (FolderCall D)) → FolderCall D
    → Type 0
Adds old None call = Unit {0}
Adds None (Some new) call = ⊥
Adds (Some old) (Some new) call = new ≡ old ++ call ∷ []
