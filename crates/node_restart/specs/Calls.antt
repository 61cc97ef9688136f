-- What a call does that hands a server a frame.
use Rattle.std.specs.Prelude.{◌≡◌, ℕ, ◌+◌, true, false, List, [], ◌∷◌, ◌++◌, length, Result, Err}
use Rattle.std.specs.Prelude.{IsOk, IfOk, OnOk, OnErr}
use Rattle.express_words.specs.Seen.{Seen}
use Rattle.node_journal.specs.Disk.{DiskSeen, Within}
use Rattle.node_journal.specs.Records.{IsUndamaged}
use Rattle.node_journal.specs.Journal.{HasSpace, LacksSpace}
use Rattle.node_journal.specs.Journal.{broken, longer}
use Rattle.node_journal.specs.declared.fault.JournalFault.TheVariants.{Closed, Full}
use Rattle.node_restart.specs.declared.did.Did.{Did}
use Rattle.kept_machine.specs.declared.fault.KeepFault.{KeepFault}
use Rattle.kept_machine.specs.declared.fault.KeepFault.TheVariants.{Journal}
use Rattle.kept_machine.specs.Faults.{Counts, IsOkOrDiskFault}
use Rattle.node_restart.specs.Frames.{Handed, IsOneFrame}
use Rattle.node_restart.specs.Steps.{step_of, Takes}
use Rattle.node_restart.specs.Kept.{KeptState, HoldsFrames, LeavesAround, Stands}

-- From old to new a server was handed these bytes, and wrote into a buffer.
pub record KeepsFrame {D : Type 0} (shows : D → DiskSeen) (seen : D → Seen) (h : Handed)
    (old new : KeptState D) (out out_new : List ℕ) (r : Result Did KeepFault) : Type 0 where
  -- The step is that of the tables. Where the answer is a fault no step was taken and nothing written.
  pub step : IfOk r (λ did. Takes (step_of old.core h.sender h.frame) new.core did out out_new)
  pub no_step : OnErr r ((new.core ≡ old.core) × (out_new ≡ out))
  pub opening : new.opening ≡ old.opening
  -- Bytes that aren't exactly one frame aren't kept, and change nothing.
  pub no_frame : (IsOneFrame h.frame → ⊥) → IsOk r × (new ≡ old)
  -- Before its step the frame is on the disk, and a crash from then on leaves it there.
  pub added : IsOneFrame h.frame → OnOk r ((frames : List Handed)
      → HoldsFrames old.opening frames (shows old.disk).reads
      → HoldsFrames new.opening (frames ++ h ∷ []) (shows new.disk).reads)
  pub longer : IsOneFrame h.frame → OnOk r (new.journal ≡ longer (length h.frame + 1) old.journal)
  pub stands : new.journal.closed ≡ false → Stands new.opening new.core (shows new.disk).reads
  pub durable : new.journal.closed ≡ false → Within (shows new.disk).may_leave (shows new.disk).reads
  -- Until a call on the disk fails a journal under the same limit finds nothing damaged.
  pub undamaged : new.journal.closed ≡ false → (c : List ℕ) → (shows new.disk).reads c
      → IsUndamaged new.journal.limit 0 c
  -- A crash at any moment of the call leaves the frames from before it, with its own or without.
  pub any_moment : IsOneFrame h.frame → LeavesAround shows old new h
  -- The faults of a frame, in the order in which they are judged. Closed and Full change nothing.
  pub closed : IsOneFrame h.frame → old.journal.closed ≡ true → (r ≡ Err (Journal Closed)) × (new ≡ old)
  pub full : IsOneFrame h.frame → old.journal.closed ≡ false → LacksSpace old.journal (length h.frame + 1)
      → (r ≡ Err (Journal (Full old.journal.end))) × (new ≡ old)
  pub fits : IsOneFrame h.frame → old.journal.closed ≡ false → HasSpace old.journal (length h.frame + 1)
      → IsOkOrDiskFault r
  pub broken : IsOneFrame h.frame → old.journal.closed ≡ false → HasSpace old.journal (length h.frame + 1)
      → OnErr r (new.journal ≡ broken old.journal)
  pub counts : Counts (seen old.disk).faults (seen new.disk).faults r
