-- A server with its journal, and what stands on its disk.
use Rattle.std.specs.Prelude.{◌≡◌, ◌⊎◌, ℕ, ◌≤◌, List, [], ◌∷◌, ◌++◌, length, drop, false, Result, Err}
use Rattle.std.specs.Prelude.{MatchResult}
use Rattle.node_journal.specs.Disk.{DiskSeen, LeavesOnly}
use Rattle.node_journal.specs.Records.{content, records_from, IsUndamaged, LeavesNoByte}
use Rattle.node_journal.specs.Next.{found}
use Rattle.node_journal.specs.Journal.{JournalState}
use Rattle.node_journal.specs.declared.fault.JournalFault.TheVariants.{Damaged}
use Rattle.kept_machine.specs.declared.fault.KeepFault.{KeepFault}
use Rattle.kept_machine.specs.Kept as machine
use Rattle.node_restart.specs.declared.machine.Server.{Server}
use Rattle.node_restart.specs.declared.server.Core.{Core}
use Rattle.node_restart.specs.declared.opening.Opening.{Opening}
use Rattle.node_restart.specs.Openings.{IsOpening}
use Rattle.node_restart.specs.Frames.{Handed, AllFrames, records_of}
use Rattle.node_restart.specs.Steps.{fold}

-- how the server was opened, the server, its journal and the journal's disk
pub record KeptState (D : Type 0) : Type 0 where
  pub opening : Opening
  pub core : Core
  pub journal : JournalState
  pub disk : D

-- what is kept of a server, as its callers see it
abbrev pub state_of : {D : Type 0} → machine.KeptState Server D → KeptState D
state_of k = record {
  opening = k.machine.opening;
  core = k.machine.core;
  journal = k.journal;
  disk = k.disk;
}

-- the disk's content is the records of the opening and of these frames
abbrev pub HoldsFrames : Opening → List Handed → (List ℕ → Type 0) → Type 0
HoldsFrames o frames reads = (c : List ℕ) → reads c → content c ≡ records_of o frames

-- Where the disk's content is the records of an opening and of frames, this is that opening and their fold.
abbrev pub IsToldBy : (List ℕ → Type 0) → Opening → Core → Type 0
IsToldBy reads opening core = (o : Opening) (frames : List Handed) (c : List ℕ) → reads c → IsOpening o
    → HoldsFrames o frames reads → (opening ≡ o) × (core ≡ fold o frames)

-- the disk's content is not the records of an opening and of frames
abbrev pub HoldsNoFrames : (List ℕ → Type 0) → Type 0
HoldsNoFrames reads = (o : Opening) (frames : List Handed) (c : List ℕ) → reads c → IsOpening o
    → AllFrames frames → HoldsFrames o frames reads → ⊥

-- The server is the fold of the opening and of the frames that stand on the disk.
pub record Stands (o : Opening) (core : Core) (reads : List ℕ → Type 0) : Type 0 where
  pub frames : List Handed
  pub whole : AllFrames frames
  pub folded : core ≡ fold o frames
  pub held : HoldsFrames o frames reads

-- A crash leaves the records of the opening and these frames, or of these and one more, and nothing that a
-- journal under the same limit would find damaged.
abbrev pub LeavesFrames : ℕ → Opening → List Handed → Handed → List ℕ → Type 0
LeavesFrames limit o frames added c =
    ((content c ≡ records_of o frames) ⊎ (content c ≡ records_of o (frames ++ added ∷ [])))
    × IsUndamaged limit 0 c

-- A crash leaves no record or exactly the opening's, and nothing that a journal under the same limit would
-- find damaged, unless it is one byte at most.
abbrev pub LeavesOpening : ℕ → Opening → List ℕ → Type 0
LeavesOpening limit o c =
    ((content c ≡ []) ⊎ (content c ≡ records_of o [])) × ((length c ≤ 1) ⊎ IsUndamaged limit 0 c)

-- While the journal is open, a crash at any moment from old to new leaves the frames from before, with this
-- one or without.
abbrev pub LeavesAround : {D : Type 0} → (D → DiskSeen) → (old new : KeptState D) → Handed → Type 0
LeavesAround disk old new h = old.journal.closed ≡ false → (frames : List Handed)
    → HoldsFrames old.opening frames (disk old.disk).reads → LeavesOnly (disk old.disk) (disk new.disk)
    (LeavesFrames old.journal.limit old.opening frames h)

-- Where a crash before leaves no byte, one at any moment since then leaves just this.
unfoldable pub MakesOnly : ℕ → Opening → (old new : DiskSeen) → Type 0
MakesOnly limit o old new = LeavesNoByte old.may_leave → LeavesOnly old new (LeavesOpening limit o)

-- P of the disk that comes back, with the server or beside a fault
abbrev pub OnDisk : {D : Type 0} → Result (KeptState D) (KeepFault × D) → (D → Type 0) → Type 0
OnDisk result P = MatchResult result (λ k. P k.disk) (λ x. P x.1)

-- Records of the form stand before byte n.
pub record HasBefore (n : ℕ) (c : List ℕ) : Type 0 where
  pub opening : Opening
  pub is_opening : IsOpening opening
  pub frames : List Handed
  pub whole : AllFrames frames
  pub split : content c ≡ records_of opening frames ++ records_from n c

-- The gate at byte n is open with no whole record within the limit behind it, and every record before it is
-- of the form.
pub record IsDamagedAt (limit n : ℕ) (c : List ℕ) : Type 0 where
  pub found : found n limit (drop n c) ≡ Err (Damaged n)
  pub before : (n ≡ 0) ⊎ HasBefore n c
