-- A kept machine, and what stands on its disk.
use Rattle.std.specs.Prelude.{◌≡◌, ◌⊎◌, ℕ, List, [], ◌∷◌, ◌++◌, drop, true, false, Result, Err, MatchResult}
use Rattle.node_journal.specs.Disk.{DiskSeen, LeavesOnly}
use Rattle.node_journal.specs.Records.{content, records_from, IsUndamaged, LeavesNoByte, LeavesNoneOrFirst}
use Rattle.node_journal.specs.Next.{found}
use Rattle.node_journal.specs.Journal.{JournalState, IsInPlace}
use Rattle.node_journal.specs.declared.fault.JournalFault.TheVariants.{Damaged}
use Rattle.kept_machine.specs.declared.fault.KeepFault.{KeepFault}
use Rattle.kept_machine.specs.Machines.{Rules, IsForm, Gives}

-- the machine, its journal and the journal's disk
pub record KeptState (M D : Type 0) : Type 0 where
  pub machine : M
  pub journal : JournalState
  pub disk : D

-- the disk's content is these records
abbrev pub Holds : List (List ℕ) → (List ℕ → Type 0) → Type 0
Holds records reads = (c : List ℕ) → reads c → content c ≡ records

-- What stands on the disk gives the machine.
pub record Stands {M : Type 0} (rules : Rules M) (machine : M) (reads : List ℕ → Type 0) : Type 0 where
  pub records : List (List ℕ)
  pub gives : Gives rules records machine
  pub held : Holds records reads

-- the disk's content isn't a machine's records
abbrev pub HoldsNoForm : {M : Type 0} → Rules M → (List ℕ → Type 0) → Type 0
HoldsNoForm rules reads =
    (records : List (List ℕ)) (c : List ℕ) → reads c → IsForm rules records → Holds records reads → ⊥

-- The disk's content is a machine's records, and under this limit nothing of it is damaged.
pub record HoldsWhole {M : Type 0} (rules : Rules M) (limit : ℕ) (reads : List ℕ → Type 0) : Type 0 where
  pub records : List (List ℕ)
  pub form : IsForm rules records
  pub held : Holds records reads
  pub undamaged : (c : List ℕ) → reads c → IsUndamaged limit 0 c

-- at the first byte nothing is damaged
abbrev pub IsSoundFirst : ℕ → (List ℕ → Type 0) → Type 0
IsSoundFirst limit reads = (c : List ℕ) → reads c → found 0 limit c ≡ Err (Damaged 0) → ⊥

-- A crash leaves these records, or these and one more, and nothing that a journal under the same limit would
-- find damaged.
abbrev pub LeavesRecords : ℕ → List (List ℕ) → List ℕ → List ℕ → Type 0
LeavesRecords limit records added c =
    ((content c ≡ records) ⊎ (content c ≡ records ++ added ∷ [])) × IsUndamaged limit 0 c

-- Where a crash before leaves no byte, one at any moment since then leaves no record or exactly the first,
-- and nothing that a journal under the same limit would find damaged, unless it is one byte at most.
unfoldable pub MakesOnly : ℕ → List ℕ → (old new : DiskSeen) → Type 0
MakesOnly limit first old new =
    LeavesNoByte old.may_leave → LeavesOnly old new (LeavesNoneOrFirst limit first)

-- P of the disk that comes back, with what is kept or beside a fault
abbrev pub OnDisk : {M D : Type 0} → Result (KeptState M D) (KeepFault × D) → (D → Type 0) → Type 0
OnDisk result P = MatchResult result (λ k. P k.disk) (λ x. P x.1)

-- until a call on the disk fails, the journal is in place and what stands on its disk gives the machine
pub record IsKept {M : Type 0} (rules : Rules M) (machine : M) (journal : JournalState) (disk : DiskSeen)
    : Type 0 where
  pub sound : rules.is_sound machine
  pub ready : journal.ready ≡ true
  pub in_place : journal.closed ≡ false → IsInPlace journal disk
  pub stands : journal.closed ≡ false → Stands rules machine disk.reads

-- Records of the form stand before byte n.
pub record HasBefore {M : Type 0} (rules : Rules M) (n : ℕ) (c : List ℕ) : Type 0 where
  pub before : List (List ℕ)
  pub form : IsForm rules before
  pub split : content c ≡ before ++ records_from n c

-- The gate at byte n is open with no whole record within the limit behind it, and every record before it is
-- of the form.
pub record IsDamagedAt {M : Type 0} (rules : Rules M) (limit n : ℕ) (c : List ℕ) : Type 0 where
  pub found : found n limit (drop n c) ≡ Err (Damaged n)
  pub before : (n ≡ 0) ⊎ HasBefore rules n c
