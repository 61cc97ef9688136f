-- How a run ends, and what is written then.
use Rattle.std.specs.Prelude.{◌≡◌, ◌⊎◌, ℕ, List, ◌++◌, codes, Option}
use Rattle.std.specs.Fmt.{decimal}
use Rattle.express_words.specs.Causes.{Rose}
use Rattle.express_words.specs.Seen.{Seen}
use Rattle.express_words.specs.Streams.{Took, TookPrefix}
use Rattle.express_texts.specs.declared.fault.TextFault.{TextFault}
use Rattle.express_texts.specs.declared.fault.TextFault.TheVariants as fault
use Rattle.schedule_text.specs.Spelling as schedules
use Rattle.schedule_text.specs.declared.schedule.Schedule.{Schedule}
use Rattle.replay_world.specs.Played.{output_of}
use Rattle.express_texts.specs.Batch.{Batch as Pairs}
use Rattle.express_texts.specs.Spelling as batches
use Rattle.express_texts.specs.declared.cloak.CloakGame.{CloakGame}
use Rattle.express_texts.specs.GameSpelling.{SpellsGame, IsFirstBadGameLine}
use Rattle.express_cli.specs.Batches.{IsBatchText}
use Rattle.express_cli.specs.Cloaks.{IsCloakText}
use Rattle.express_cli.specs.Mills.{mill_text}
use Rattle.express_cli.specs.declared.words.Command.{Command}
use Rattle.express_cli.specs.declared.words.Command.TheVariants.{Replay, Batch, Cloak}
use Rattle.express_cli.specs.declared.ends.End.{End}
use Rattle.express_cli.specs.declared.ends.End.TheVariants.{Done, Usage, BadLine, BadKey, ReadFault}
use Rattle.express_cli.specs.declared.ends.End.TheVariants.{WriteFault, NetFault, OutOfMemory, TooLong}
use Rattle.express_cli.specs.declared.ends.End.TheVariants.{DiskFault, JournalFull, JournalDamaged}
use Rattle.express_cli.specs.declared.ends.End.TheVariants.{JournalForeign}

-- the status that the program ends with
abbrev pub status_of : End → ℕ
status_of Done = 0
status_of Usage = 2
status_of (BadLine n) = 3
status_of BadKey = 3
status_of ReadFault = 4
status_of WriteFault = 5
status_of NetFault = 6
status_of OutOfMemory = 7
status_of TooLong = 8
status_of DiskFault = 10
status_of JournalFull = 11
status_of (JournalDamaged at) = 12
status_of (JournalForeign number) = 13

abbrev pub usage_text : List ℕ
usage_text = codes "usage: express replay, serve, client, cloak, carry, batch or mill NUMBER\n"

abbrev pub bad_line : ℕ → List ℕ
bad_line n = codes "bad line " ++ (decimal n ++ codes "\n")

abbrev pub bad_settings : List ℕ → List ℕ
bad_settings key = codes "bad settings " ++ (key ++ codes "\n")

abbrev pub read_fault_text : List ℕ
read_fault_text = codes "read fault\n"

abbrev pub net_fault_text : List ℕ
net_fault_text = codes "net fault\n"

abbrev pub out_of_memory_text : List ℕ
out_of_memory_text = codes "out of memory\n"

abbrev pub too_long_text : List ℕ
too_long_text = codes "input too long\n"

-- Of the ends with their texts that may come, one came, its text was written and the sink didn't fail; or the
-- sink failed after a part of such a text.
abbrev pub PrintsBy : (End → List ℕ → Type 0) → Option (List ℕ) → Option (List ℕ) → ℕ → ℕ → End → Type 0
PrintsBy May old new before now WriteFault =
    Rose before now × ((end : End) × (text : List ℕ) × May end text × TookPrefix old new text)
PrintsBy May old new before now end =
    (text : List ℕ) × May end text × Took old new text × (now ≡ before)

-- likewise of a sink that showed this before and shows that now
abbrev pub Prints : (End → List ℕ → Type 0) → (old new : Seen) → End → Type 0
Prints May old new end = PrintsBy May old.written new.written old.faults new.faults end

-- this end with this text
abbrev pub Said : End → List ℕ → End → List ℕ → Type 0
Said end text e t = (e ≡ end) × (t ≡ text)

-- memory was wanting
abbrev pub SaidWanting : End → List ℕ → Type 0
SaidWanting end text = Said OutOfMemory out_of_memory_text end text

-- this end with this text, unless memory is wanting for it
abbrev pub SaidOrWants : End → List ℕ → End → List ℕ → Type 0
SaidOrWants end text e t = Said end text e t ⊎ SaidWanting e t

-- a bad line, or want of memory
abbrev pub BadLineMay : ℕ → End → List ℕ → Type 0
BadLineMay n end text = SaidOrWants (BadLine n) (bad_line n) end text

-- a bad key, or want of memory
abbrev pub BadKeyMay : List ℕ → End → List ℕ → Type 0
BadKeyMay key end text = SaidOrWants BadKey (bad_settings key) end text

-- what is said of a fault of a text
abbrev pub FaultMay : TextFault → End → List ℕ → Type 0
FaultMay (fault.Wrong n) end text = BadLineMay n end text
FaultMay (fault.WrongKey key) end text = BadKeyMay key end text
FaultMay fault.NoMemory end text = SaidWanting end text

-- the command writes this text of these bytes
abbrev pub IsOutput : Command → List ℕ → List ℕ → Type 0
IsOutput Replay bytes text =
    (schedule : Schedule) × schedules.SpellsSchedule schedule bytes × (text ≡ output_of schedule)
IsOutput Batch bytes text = (pairs : Pairs) × batches.SpellsBatch pairs bytes × IsBatchText pairs text
IsOutput Cloak bytes text = (game : CloakGame) × SpellsGame game bytes × IsCloakText game text

-- line n of these bytes is the one that the command names as bad
abbrev pub IsBad : Command → ℕ → List ℕ → Type 0
IsBad Replay n bytes = schedules.IsFirstBadLine n bytes
IsBad Batch n bytes = batches.IsFirstBadLine n bytes
IsBad Cloak n bytes = IsFirstBadGameLine n bytes

-- To work on bytes comes to what the command writes of them, to their first bad line, or to want of memory.
abbrev pub WorkMay : Command → List ℕ → End → List ℕ → Type 0
WorkMay command bytes Done text = IsOutput command bytes text
WorkMay command bytes (BadLine n) text = IsBad command n bytes × (text ≡ bad_line n)
WorkMay command bytes OutOfMemory text = text ≡ out_of_memory_text
WorkMay command bytes other text = ⊥

-- A mill comes to its text, or to want of memory.
abbrev pub MillMay : ℕ → End → List ℕ → Type 0
MillMay n Done text = text ≡ mill_text n
MillMay n OutOfMemory text = text ≡ out_of_memory_text
MillMay n other text = ⊥

-- The count of faults of a journal's disk rose where its fault is told, and else it stayed; where the sink
-- failed, that hides which.
abbrev pub DiskCounts : End → (before now : ℕ) → Type 0
DiskCounts DiskFault before now = Rose before now
DiskCounts WriteFault before now = (now ≡ before) ⊎ Rose before now
DiskCounts other before now = now ≡ before
