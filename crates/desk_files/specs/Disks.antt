-- What may be done with a file that was opened.
use Rattle.std.specs.Prelude.{◌≡◌, true, false}
use Rattle.express_outside.specs.declared.file_disk.FileDisk.{FileDisk}

-- It may be written.
abbrev pub MayBeWritten : {F : Type 0} → FileDisk F → Type 0
MayBeWritten disk = disk.is_only_read ≡ false

-- It is only read: nothing on the disk changes, not where it is opened either.
abbrev pub IsOnlyRead : {F : Type 0} → FileDisk F → Type 0
IsOnlyRead disk = disk.is_only_read ≡ true
