-- A client with its journal, and what stands on its disk.
use Rattle.std.specs.Prelude.{◌≡◌, ◌⊎◌, ℕ, ◌≤◌, List, [], ◌∷◌, ◌++◌, length, drop, Result, Err}
use Rattle.std.specs.Prelude.{MatchResult}
use Rattle.node_journal.specs.Disk.{DiskSeen, LeavesOnly}
use Rattle.node_journal.specs.Records.{content, records_from, IsUndamaged, LeavesNoByte}
use Rattle.node_journal.specs.Next.{found}
use Rattle.node_journal.specs.Journal.{JournalState}
use Rattle.node_journal.specs.declared.fault.JournalFault.TheVariants.{Damaged}
use Rattle.kept_machine.specs.declared.fault.KeepFault.{KeepFault}
use Rattle.client_restart.specs.declared.opening.ClientOpening.{ClientOpening}
use Rattle.kept_machine.specs.Kept as machine
use Rattle.client_restart.specs.declared.machine.OpenedClient.{OpenedClient}
use Rattle.client_restart.specs.Cores.{core_in}
use Rattle.client_restart.specs.Openings.{IsClientOpening}
use Rattle.client_restart.specs.Notes.{Noted}
use Rattle.client_restart.specs.Records.{AllNotes, records_of}
use Rattle.client_restart.specs.Steps.{CoreState, fold}

-- how the client was opened, the client, its journal and the journal's disk
pub record ClientState (D : Type 0) : Type 0 where
  pub opening : ClientOpening
  pub core : CoreState
  pub journal : JournalState
  pub disk : D

-- what is kept of a client, as its callers see it
abbrev pub state_of : {D : Type 0} → machine.KeptState OpenedClient D → ClientState D
state_of k = record {
  opening = k.machine.opening;
  core = core_in k.machine.core;
  journal = k.journal;
  disk = k.disk;
}

-- the disk's content is the records of the opening and of these notes
abbrev pub HoldsNotes : ClientOpening → List Noted → (List ℕ → Type 0) → Type 0
HoldsNotes o notes reads = (c : List ℕ) → reads c → content c ≡ records_of o notes

-- Where the disk's content is the records of an opening and of notes, this is that opening and their fold.
abbrev pub IsToldBy : (List ℕ → Type 0) → ClientOpening → CoreState → Type 0
IsToldBy reads opening core = (o : ClientOpening) (notes : List Noted) (c : List ℕ) → reads c
    → IsClientOpening o → AllNotes notes → HoldsNotes o notes reads → (opening ≡ o) × (core ≡ fold o notes)

-- the disk's content is not the records of an opening and of notes
abbrev pub HoldsNoNotes : (List ℕ → Type 0) → Type 0
HoldsNoNotes reads = (o : ClientOpening) (notes : List Noted) (c : List ℕ) → reads c → IsClientOpening o
    → AllNotes notes → HoldsNotes o notes reads → ⊥

-- The disk's content is the records of an opening and of notes, and under this limit nothing of it is
-- damaged.
pub record HoldsWholeNotes (limit : ℕ) (reads : List ℕ → Type 0) : Type 0 where
  pub opening : ClientOpening
  pub is_opening : IsClientOpening opening
  pub notes : List Noted
  pub whole : AllNotes notes
  pub held : HoldsNotes opening notes reads
  pub undamaged : (c : List ℕ) → reads c → IsUndamaged limit 0 c

-- at the first byte nothing is damaged
abbrev pub IsSoundFirst : ℕ → (List ℕ → Type 0) → Type 0
IsSoundFirst limit reads = (c : List ℕ) → reads c → found 0 limit c ≡ Err (Damaged 0) → ⊥

-- The client is the fold of the opening and of the notes that stand on the disk.
pub record StandsByNotes (o : ClientOpening) (core : CoreState) (reads : List ℕ → Type 0) : Type 0 where
  pub notes : List Noted
  pub whole : AllNotes notes
  pub folded : core ≡ fold o notes
  pub held : HoldsNotes o notes reads

-- A crash leaves the records of the opening and these notes, or of these and one more, and nothing that a
-- journal under the same limit would find damaged.
abbrev pub LeavesNotes : ℕ → ClientOpening → List Noted → Noted → List ℕ → Type 0
LeavesNotes limit o notes added c =
    ((content c ≡ records_of o notes) ⊎ (content c ≡ records_of o (notes ++ added ∷ [])))
    × IsUndamaged limit 0 c

-- A crash leaves no record or exactly the opening's, and nothing that a journal under the same limit would
-- find damaged, unless it is one byte at most.
abbrev pub LeavesOpening : ℕ → ClientOpening → List ℕ → Type 0
LeavesOpening limit o c =
    ((content c ≡ []) ⊎ (content c ≡ records_of o [])) × ((length c ≤ 1) ⊎ IsUndamaged limit 0 c)

-- Where a crash before leaves no byte, one at any moment since then leaves just this.
unfoldable pub MakesOnly : ℕ → ClientOpening → (old new : DiskSeen) → Type 0
MakesOnly limit o old new = LeavesNoByte old.may_leave → LeavesOnly old new (LeavesOpening limit o)

-- P of the disk that comes back, with the client or beside a fault
abbrev pub OnDisk : {D : Type 0} → Result (ClientState D) (KeepFault × D) → (D → Type 0) → Type 0
OnDisk result P = MatchResult result (λ k. P k.disk) (λ x. P x.1)

-- Records of the form stand before byte n.
pub record HasNotesBefore (n : ℕ) (c : List ℕ) : Type 0 where
  pub opening : ClientOpening
  pub is_opening : IsClientOpening opening
  pub notes : List Noted
  pub whole : AllNotes notes
  pub split : content c ≡ records_of opening notes ++ records_from n c

-- The gate at byte n is open with no whole record within the limit behind it, and every record before it is
-- of the form.
pub record IsDamagedBehindNotes (limit n : ℕ) (c : List ℕ) : Type 0 where
  pub found : found n limit (drop n c) ≡ Err (Damaged n)
  pub before : (n ≡ 0) ⊎ HasNotesBefore n c
