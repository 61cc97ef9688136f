-- What one run of `keep` comes to.
use Rattle.std.specs.Prelude.{◌≡◌, ◌≢◌, ◌⊎◌, ℕ, List, [], ◌∷◌, ◌++◌, String, codes, map, string_bytes}
use Rattle.clap.specs.Words.{Text}
use Rattle.node_journal.specs.Disk.{DiskSeen}
use Rattle.node_journal.specs.declared.fault.JournalFault.TheVariants.{Full, Damaged}
use Rattle.settings_text.specs.declared.serve.ServeSettings.{ServeSettings}
use Rattle.node_restart.specs.Kept.{KeptState}
use Rattle.kept_machine.specs.Texts.{fault_text}
use Rattle.kept_machine.specs.declared.fault.KeepFault.{KeepFault}
use Rattle.kept_machine.specs.declared.fault.KeepFault.TheVariants.{Journal, NoMemory, Foreign}
use Rattle.node_serve.specs.KeptOpening.{IsOpenedOn, IsOfOpening, IsCauseOf, LeavesDisk}
use Rattle.node_serve.specs.KeptOpening.{opening_of, key_text}
use Rattle.node_serve.specs.declared.open_fault.OpenFault.{OpenFault}
use Rattle.node_serve.specs.declared.open_fault.OpenFault.TheVariants as opening
use Rattle.node_serve.specs.JournalLog.{journal_log}
use Rattle.express_cli.specs.Around.{Around, Read, Seen, Streams}
use Rattle.express_cli.specs.Ends.{BadKeyMay, DiskCounts, SaidOrWants, SaidWanting, status_of}
use Rattle.express_cli.specs.Talking.{BreaksBy, IsStill, Duty, MayBy, Talks, server}
use Rattle.express_cli.specs.Ran.{Ran}
use Rattle.express_cli.specs.Runs.{UnreadMay}
use Rattle.express_cli.specs.declared.ends.End.{End}
use Rattle.express_cli.specs.declared.ends.End.TheVariants.{ReadFault, WriteFault, OutOfMemory, DiskFault}
use Rattle.express_cli.specs.declared.ends.End.TheVariants.{JournalFull, JournalDamaged, JournalForeign}
use Rattle.express_cli.specs.Door.{DoorMay, doorway_of}

-- ---- a fault

-- how the program ends by a fault
abbrev pub end_by : KeepFault → End
end_by (Journal (Full end)) = JournalFull
end_by (Journal (Damaged at)) = JournalDamaged at
end_by (Journal why) = DiskFault
end_by NoMemory = OutOfMemory
end_by (Foreign number) = JournalForeign number

abbrev pub fault_line : KeepFault → List ℕ
fault_line fault = fault_text fault ++ codes "\n"

-- what is said of a fault, unless memory is wanting for its text
abbrev pub KeepFaultMay : KeepFault → End → List ℕ → Type 0
KeepFaultMay fault end text = SaidOrWants (end_by fault) (fault_line fault) end text

-- what is said of a server that isn't opened
abbrev pub OpenFaultMay : OpenFault → End → List ℕ → Type 0
OpenFaultMay (opening.Keep fault) end text = KeepFaultMay fault end text
OpenFaultMay (opening.Differs key) end text = BadKeyMay (key_text key) end text

-- ---- a server

-- a journal uses so many bytes of its disk at most
abbrev pub limit : ℕ
limit = 1073741824

-- A new server on a disk with no byte, or the one of the journal that stands there, was opened, and came to
-- this at its door; its disk is handed back.
pub record Opened {D : Type 0} (shows : D → DiskSeen) (settings : ServeSettings) (net : Around)
    (disk after : D) (end : End) (text : List ℕ) : Type 0 where
  pub old : KeptState D
  pub new : KeptState D
  pub opened : IsOpenedOn shows limit (opening_of settings net.seed) disk old
  pub served : DoorMay (journal_log shows) KeepFaultMay settings (doorway_of net old new) end text
  pub handed_back : after ≡ new.disk

-- The server wasn't opened; no call was made on the net.
pub record Unopened {D : Type 0} (shows : D → DiskSeen) (settings : ServeSettings) (net : Around)
    (disk after : D) (end : End) (text : List ℕ) : Type 0 where
  pub fault : OpenFault
  pub kind : IsOfOpening fault
  pub cause : IsCauseOf fault limit (opening_of settings net.seed) (shows disk).reads
  pub leaves : LeavesDisk fault shows disk after
  pub quiet : net.now ≡ net.before
  pub says : OpenFaultMay fault end text

-- neither the disk nor the net was asked
abbrev pub Untouched : {D : Type 0} → Around → (disk after : D) → Type 0
Untouched net disk after = (after ≡ disk) × IsStill net

-- a server with a journal: it is opened, or it isn't, or memory is wanting before the disk is asked
abbrev pub keeper : {D : Type 0} → (D → DiskSeen) → (disk after : D) → Duty
keeper shows disk after = record server {
  May = λ settings net end text.
      Opened shows settings net disk after end text
      ⊎ (Unopened shows settings net disk after end text
      ⊎ (Untouched net disk after × SaidWanting end text));
  Rests = λ net. Untouched net disk after;
}

-- ---- a run

-- what may come of a run of `keep`: of the bytes of its input, or of one that isn't read to its end
abbrev pub KeepMay : {D : Type 0} → (D → DiskSeen) → Streams → Around → (disk after : D) → End → List ℕ
    → Type 0
KeepMay shows streams net disk after end text =
    ((bytes : List ℕ) × Read streams bytes × MayBy (keeper shows disk after) bytes net end text)
    ⊎ (Untouched net disk after × UnreadMay streams.input streams.input_now end text)

-- Where the sink failed, the input gave all its bytes and by the settings that they spell it was told that
-- the server listens before a connection was accepted.
abbrev pub KeepBreaks : Streams → Around → Type 0
KeepBreaks streams net =
    (bytes : List ℕ) × Read streams bytes × BreaksBy server bytes net streams.out streams.out_now

-- How it ends. The count of faults of its disk is told.
abbrev pub KeepEnds : {D : Type 0} → (D → DiskSeen) → (D → Seen) → Streams → Around → (disk after : D) → End
    → Type 0
KeepEnds shows counted streams net disk after end =
    Talks (KeepMay shows streams net disk after) (KeepBreaks streams net)
    (DiskCounts end (counted disk).faults (counted after).faults) net streams.out streams.out_now end

-- the input failed only where that is told, or where the sink failed and hides it
abbrev pub InputCounts : End → Streams → Type 0
InputCounts end streams = end ≢ ReadFault → end ≢ WriteFault → streams.input_now.faults ≡ streams.input.faults

-- What one run of `keep` promises, by its status. A disk shows what is on it, and its count of faults. No
-- fault is passed over, and a server tells that it listens before it accepts a connection.
pub record KeepRan {D : Type 0} (shows : D → DiskSeen) (counted : D → Seen) (streams : Streams) (net : Around)
    (disk after : D) (status : ℕ) : Type 0 where
  pub ending : End
  pub status_is : status ≡ status_of ending
  pub ends : KeepEnds shows counted streams net disk after ending
  pub input_counts : InputCounts ending streams
  pub output_counts : ending ≢ WriteFault → streams.out_now.faults ≡ streams.out.faults

-- the words are the one word `keep`
abbrev pub AsksKeep : List Text → Type 0
AsksKeep words = words ≡ codes "keep" ∷ []

-- what is promised for the word `keep`: the status and the disk after the run
abbrev pub Keeps : {D Z : Type 0} → List (String Z) → (D → DiskSeen) → (D → Seen) → Streams → Around → D
    → ℕ × D → Type 0
Keeps words shows counted streams net disk result =
    AsksKeep (map string_bytes words) → KeepRan shows counted streams net disk result.1 result.0

-- the words ask for anything else, or for nothing
abbrev pub AsksOther : {Z : Type 0} → List (String Z) → Type 0
AsksOther words = AsksKeep (map string_bytes words) → ⊥

-- what is promised for all other words: the run is `run`'s
abbrev pub OtherRan : {Z : Type 0} → List (String Z) → Streams → Around → (status : ℕ) → Type 0
OtherRan words streams net status = AsksOther words → Ran (map string_bytes words) streams net status
