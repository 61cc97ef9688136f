-- The calls that a folder's log holds.
use Rattle.std.specs.Prelude.{Result}
use Rattle.express_words.specs.declared.outside.Failed.{Failed}
use Rattle.desk_outside.specs.Calls.{FolderCall, given}
use Rattle.desk_outside.specs.Calls as call
use Rattle.desk_files.specs.declared.folder_log.Entry.{Entry}
use Rattle.desk_files.specs.declared.folder_log.Entry.TheVariants.{Held, Looked, Opened, Placed, Removed, Adopted}

-- a call of its entry and of what it opened
abbrev pub call_of : {D : Type 0} → Entry × Result D Failed → FolderCall D
call_of (Held answer, opened) = call.Held (given answer)
call_of (Looked file answer, opened) = call.Looked file (given answer)
call_of (Opened file, opened) = call.Opened file (given opened)
call_of (Placed next file failed, opened) = call.Placed next file failed
call_of (Removed file failed, opened) = call.Removed file failed
call_of (Adopted failed, opened) = call.Adopted failed
