-- Files that are made anew.
use Rattle.std.specs.Prelude.{false, List, Option, Some}
use Rattle.desk_outside.specs.Calls.{Adds, FolderCall, Opened, Removed}
use Rattle.desk_outside.specs.declared.folder.DeskFile.{DeskFile}

-- What was left in the file is removed, and it is opened as an empty one.
pub record MakesFile {D : Type 0} (file : DeskFile) (disk : D) (old new : Option (List (FolderCall D)))
    : Type 0 where
  pub mid : Option (List (FolderCall D))
  pub removed : Adds old mid (Removed file false)
  pub opened : Adds mid new (Opened file (Some disk))
