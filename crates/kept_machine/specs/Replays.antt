-- What is read of a journal on the way to its end.
use Rattle.std.specs.Prelude.{◌≡◌, ◌+◌, ◌<◌, ℕ, List, ◌∷◌, ◌++◌, length, drop, false}
use Rattle.std.specs.Prelude.{Option, Some, None, Result, Ok, Err}
use Rattle.node_journal.specs.Disk.{DiskSeen}
use Rattle.node_journal.specs.Records.{content, records_from, HoldsRecord, IsUndamaged, StaysUndamaged}
use Rattle.node_journal.specs.Next.{found}
use Rattle.node_journal.specs.Journal.{JournalState, IsInPlace}
use Rattle.node_journal.specs.declared.fault.JournalFault.TheVariants.{Damaged}
use Rattle.kept_machine.specs.declared.fault.KeepFault.{KeepFault}
use Rattle.kept_machine.specs.Machines.{Rules, All, Runs}

-- no call on the disk has failed, and the journal is in place
pub record IsReading (limit : ℕ) (j : JournalState) (disk : DiskSeen) : Type 0 where
  pub still_open : j.closed ≡ false
  pub same_limit : j.limit ≡ limit
  pub in_place : IsInPlace j disk

-- an opening stands first, and the rest begins at this byte
abbrev pub StandsFirst : List ℕ → ℕ → (List ℕ → Type 0) → Type 0
StandsFirst first end reads = (c : List ℕ) → reads c → content c ≡ first ∷ records_from end c

-- the bytes are no later record of the machine
abbrev pub IsNoRecord : {M : Type 0} → Rules M → List ℕ → Type 0
IsNoRecord rules bytes = rules.is_record bytes → ⊥

-- P of the number of bytes, where there is one
abbrev pub IfCount : Result (Option ℕ) KeepFault → (ℕ → Type 0) → Type 0
IfCount (Ok (Some count)) P = P count
IfCount (Ok None) P = Unit {0}
IfCount (Err fault) P = Unit {0}

-- A record of the form stands from this byte on to that. Where nothing is damaged from the one on, nothing is
-- from the other on.
pub record StandsRecord (Is : List ℕ → Type 0) (limit : ℕ) (bytes : List ℕ) (start end : ℕ)
    (reads : List ℕ → Type 0) : Type 0 where
  pub whole : Is bytes
  pub stands : HoldsRecord start end bytes reads
  pub undamaged : StaysUndamaged limit start end reads
  pub longer : start < end
  pub within : end < limit

-- One record stands from this byte on to that, and its step was taken.
pub record StepsOnce {M : Type 0} (rules : Rules M) (limit start end : ℕ) (before now : M)
    (reads : List ℕ → Type 0) : Type 0 where
  pub bytes : List ℕ
  pub stands : StandsRecord rules.is_record limit bytes start end reads
  pub step : rules.steps bytes before now

-- Records stand from this byte to the end, and their steps were taken.
pub record StepsToEnd {M : Type 0} (rules : Rules M) (start : ℕ) (before now : M) (reads : List ℕ → Type 0)
    : Type 0 where
  pub records : List (List ℕ)
  pub whole : All rules.is_record records
  pub runs : Runs rules before records now
  pub all : (c : List ℕ) → reads c → records_from start c ≡ records

-- a record of this kind stands at this byte
abbrev pub StandsAt : (List ℕ → Type 0) → ℕ → (List ℕ → Type 0) → Type 0
StandsAt Is end reads = (bytes : List ℕ) × Is bytes
    × ((c : List ℕ) → reads c → (rest : List (List ℕ)) × (records_from end c ≡ bytes ∷ rest))

-- what stands at this byte is damaged
abbrev pub StandsDamaged : ℕ → ℕ → (List ℕ → Type 0) → Type 0
StandsDamaged limit end reads = (c : List ℕ) → reads c
    → (found end limit (drop end c) ≡ Err (Damaged end)) × (IsUndamaged limit end c → ⊥)

-- behind records of the form comes one of this kind, and the number of the first of them is one
pub record EndsWith {M : Type 0} (rules : Rules M) (Is : List ℕ → Type 0) (number start : ℕ)
    (reads : List ℕ → Type 0) : Type 0 where
  pub records : List (List ℕ)
  pub whole : All rules.is_record records
  pub place : number ≡ length records + 1
  pub bytes : List ℕ
  pub is : Is bytes
  pub split : (c : List ℕ) → reads c
      → (rest : List (List ℕ)) × (records_from start c ≡ records ++ bytes ∷ rest)

-- behind them comes damage, at this byte
pub record EndsDamaged {M : Type 0} (rules : Rules M) (limit at start : ℕ) (reads : List ℕ → Type 0)
    : Type 0 where
  pub records : List (List ℕ)
  pub whole : All rules.is_record records
  pub split : (c : List ℕ) → reads c → records_from start c ≡ records ++ records_from at c
  pub damaged : (c : List ℕ) → reads c
      → (found at limit (drop at c) ≡ Err (Damaged at)) × (IsUndamaged limit start c → ⊥)

-- records of the form stand from this byte to the end
abbrev pub RecordsToEnd : {M : Type 0} → Rules M → ℕ → (List ℕ → Type 0) → Type 0
RecordsToEnd rules start reads = (records : List (List ℕ)) × All rules.is_record records
    × ((c : List ℕ) → reads c → records_from start c ≡ records)
