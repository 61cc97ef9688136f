-- What is told where work at the servers' doors halts.
use Rattle.express_words.specs.declared.role.Role.{Role}
use Rattle.door_exchange.specs.declared.exchanging.Broken.{Broken}
use Rattle.door_exchange.specs.declared.exchanging.Broken.TheVariants as broken
use Rattle.door_work.specs.declared.halt.Halt.{Halt}
use Rattle.door_work.specs.declared.halt.Halt.TheVariants as halt
use Rattle.desk_around.specs.declared.trouble.Trouble.{Trouble}
use Rattle.desk_around.specs.declared.trouble.Trouble.TheVariants as trouble
use Rattle.kept_machine.specs.declared.fault.KeepFault.{KeepFault}
use Rattle.kept_machine.specs.declared.fault.KeepFault.TheVariants.{NoMemory, Journal, Foreign}
use Rattle.node_journal.specs.declared.fault.JournalFault.TheVariants.{Full, Disk, Closed, NotEmpty, Damaged}

-- where nothing could be noted on a disk
abbrev pub unnoted : KeepFault → Trouble
unnoted NoMemory = trouble.NoMemory
unnoted (Journal (Full end)) = trouble.Full
unnoted (Journal (Disk faults)) = trouble.Folder
unnoted (Journal Closed) = trouble.Folder
unnoted (Journal NotEmpty) = trouble.Damaged
unnoted (Journal (Damaged at)) = trouble.Damaged
unnoted (Foreign at) = trouble.Damaged

-- a server that the net didn't reach, and one whose answer wasn't whole or no door's
abbrev pub unanswered : Role → Broken → Trouble
unanswered server (broken.Fault count) = trouble.Unreached server
unanswered server (broken.Early count) = trouble.NoAnswer server
unanswered server (broken.Wrong fault) = trouble.NoAnswer server

abbrev pub halted : Halt → Trouble
halted (halt.Keep fault) = unnoted fault
halted (halt.Unanswered server why) = unanswered server why
halted (halt.Busy server) = trouble.Busy server
halted (halt.NotYours server) = trouble.NotYours server
halted (halt.Answer server) = trouble.NoAnswer server
