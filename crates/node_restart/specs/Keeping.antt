-- Frames that a server was handed one after another, each on its disk before its step.
use Rattle.std.specs.Prelude.{◌≡◌, ◌≢◌, ℕ, ◌+◌, true, false, List, [], ◌∷◌, ◌++◌, length, filter, is_ok}
use Rattle.frame_rules.specs.Whole.{whole}
use Rattle.node_journal.specs.Disk.{DiskSeen, Within, LeavesOnly}
use Rattle.node_journal.specs.Records.{content, IsUndamaged}
use Rattle.node_journal.specs.Journal.{JournalState, HasSpace, LacksSpace, longer, broken}
use Rattle.node_journal.specs.declared.fault.JournalFault.TheVariants.{Closed, Full, Disk}
use Rattle.node_restart.specs.declared.opening.Opening.{Opening}
use Rattle.kept_machine.specs.declared.fault.KeepFault.{KeepFault}
use Rattle.kept_machine.specs.declared.fault.KeepFault.TheVariants.{Journal}
use Rattle.node_restart.specs.Frames.{Handed, IsOneFrame, records_of}
use Rattle.node_restart.specs.Steps.{fold_from}
use Rattle.node_restart.specs.Kept.{KeptState, HoldsFrames, LeavesAround}

-- those that are kept: the bytes that are exactly one frame; no others change anything
abbrev pub kept_of : List Handed → List Handed
kept_of frames = filter (λ h. is_ok (whole h.frame)) frames

-- a journal behind the records of these frames
abbrev pub journal_after : JournalState → List Handed → JournalState
journal_after j [] = j
journal_after j (h ∷ frames) = journal_after (longer (length h.frame + 1) j) frames

-- A crash leaves the records of the opening, of the frames before and of the first of these, and nothing
-- that a journal under the same limit would find damaged.
pub record LeavesFirst (limit : ℕ) (o : Opening) (before frames : List Handed) (c : List ℕ) : Type 0 where
  pub first : List Handed
  pub rest : List Handed
  pub split : frames ≡ first ++ rest
  pub content : content c ≡ records_of o (before ++ first)
  pub undamaged : IsUndamaged limit 0 c

-- From old to new a crash at any moment leaves the first of these frames behind those from before; if there
-- are none, nothing changed.
pub record MayLeaveFirst {D : Type 0} (shows : D → DiskSeen) (old new : KeptState D) (frames : List Handed)
    : Type 0 where
  pub quiet : frames ≡ [] → new ≡ old
  pub any_moment : frames ≢ [] → (before : List Handed)
      → HoldsFrames old.opening before (shows old.disk).reads → LeavesOnly (shows old.disk) (shows new.disk)
      (LeavesFirst old.journal.limit old.opening before frames)

-- From old to new these frames went to the disk, in this order, behind those from before.
pub record AddsFrames {D : Type 0} (shows : D → DiskSeen) (old new : KeptState D) (frames : List Handed)
    : Type 0 where
  pub opening : new.opening ≡ old.opening
  pub journal : new.journal ≡ journal_after old.journal frames
  pub unclosed : frames ≢ [] → old.journal.closed ≡ false
  pub held : (before : List Handed) → HoldsFrames old.opening before (shows old.disk).reads
      → HoldsFrames old.opening (before ++ frames) (shows new.disk).reads
  pub durable : Within (shows old.disk).may_leave (shows old.disk).reads
      → Within (shows new.disk).may_leave (shows new.disk).reads
  pub leaves : MayLeaveFirst shows old new frames

-- From old to new a server was handed these frames, in this order. It took the step of each, and those that
-- are frames stand on its disk.
pub record Keeps {D : Type 0} (shows : D → DiskSeen) (old new : KeptState D) (frames : List Handed)
    : Type 0 where
  pub steps : new.core ≡ fold_from old.core frames
  pub adds : AddsFrames shows old new (kept_of frames)

-- What a fault says of the journal before a record of so many bytes, and what it leaves: Closed and Full
-- leave all, and Disk leaves a closed journal.
abbrev pub IsCause : {D : Type 0} → KeepFault → ℕ → (old new : KeptState D) → Type 0
IsCause (Journal Closed) bytes old new = (old.journal.closed ≡ true) × (new ≡ old)
IsCause (Journal (Full end)) bytes old new =
    (old.journal.closed ≡ false) × LacksSpace old.journal bytes × (end ≡ old.journal.end) × (new ≡ old)
IsCause (Journal (Disk faults)) bytes old new =
    (old.journal.closed ≡ false) × HasSpace old.journal bytes × (new.journal ≡ broken old.journal)
IsCause other bytes old new = ⊥

-- From old to new a server was handed this frame, which wasn't kept for this fault, and took no step. A
-- crash at any moment on the way leaves the frames from before, with it or without.
pub record Refuses {D : Type 0} (shows : D → DiskSeen) (old new : KeptState D) (h : Handed)
    (fault : KeepFault) : Type 0 where
  pub whole : IsOneFrame h.frame
  pub cause : IsCause fault (length h.frame + 1) old new
  pub opening : new.opening ≡ old.opening
  pub no_step : new.core ≡ old.core
  pub any_moment : LeavesAround shows old new h

-- what a crash may leave of a frame that wasn't kept: the frame itself, where a call on the disk failed
abbrev pub begun : KeepFault → Handed → List Handed
begun (Journal (Disk faults)) h = h ∷ []
begun other h = []

-- From old to new a server was handed these frames and took their steps, and then this one, which wasn't
-- kept. A crash at any moment on the way leaves the first of all these, the last among them where a call on
-- the disk failed.
pub record KeepsUpTo {D : Type 0} (shows : D → DiskSeen) (old new : KeptState D) (frames : List Handed)
    (refused : Handed) (fault : KeepFault) : Type 0 where
  pub between : KeptState D
  pub keeps : Keeps shows old between frames
  pub refuses : Refuses shows between new refused fault
  pub leaves : MayLeaveFirst shows old new (kept_of frames ++ begun fault refused)
