-- What is said of a fault, by its kind.
use Rattle.std.specs.Prelude.{◌≡◌, ℕ, Result, Err, Ok, IfErr}
use Rattle.node_journal.specs.Journal.{CountsDisk}
use Rattle.node_journal.specs.declared.fault.JournalFault.TheVariants.{Closed, NotEmpty, Full, Disk, Damaged}
use Rattle.kept_machine.specs.declared.fault.KeepFault.{KeepFault}
use Rattle.kept_machine.specs.declared.fault.KeepFault.TheVariants.{Journal, NoMemory, Foreign}

-- P of the number, where the fault is Foreign
abbrev pub OnForeign : KeepFault → (ℕ → Type 0) → Type 0
OnForeign (Foreign n) P = P n
OnForeign NoMemory P = Unit {0}
OnForeign (Journal why) P = Unit {0}

-- P of the byte, where the fault is the journal's Damaged
abbrev pub OnDamaged : KeepFault → (ℕ → Type 0) → Type 0
OnDamaged (Journal (Damaged at)) P = P at
OnDamaged (Journal Closed) P = Unit {0}
OnDamaged (Journal NotEmpty) P = Unit {0}
OnDamaged (Journal (Full end)) P = Unit {0}
OnDamaged (Journal (Disk faults)) P = Unit {0}
OnDamaged NoMemory P = Unit {0}
OnDamaged (Foreign n) P = Unit {0}

-- P of the number, where the answer is Foreign
abbrev pub IfForeign : {T : Type 0} → Result T KeepFault → (ℕ → Type 0) → Type 0
IfForeign result P = IfErr result (λ why. OnForeign why P)

-- P of the byte, where the answer is the journal's Damaged
abbrev pub IfDamaged : {T : Type 0} → Result T KeepFault → (ℕ → Type 0) → Type 0
IfDamaged result P = IfErr result (λ why. OnDamaged why P)

-- P, where the fault is the journal's NotEmpty
abbrev pub OnNotEmpty : KeepFault → Type 0 → Type 0
OnNotEmpty (Journal NotEmpty) P = P
OnNotEmpty (Journal Closed) P = Unit {0}
OnNotEmpty (Journal (Full end)) P = Unit {0}
OnNotEmpty (Journal (Disk faults)) P = Unit {0}
OnNotEmpty (Journal (Damaged at)) P = Unit {0}
OnNotEmpty NoMemory P = Unit {0}
OnNotEmpty (Foreign n) P = Unit {0}

-- P of the end, where the fault is the journal's Full
abbrev pub OnFull : KeepFault → (ℕ → Type 0) → Type 0
OnFull (Journal (Full end)) P = P end
OnFull (Journal Closed) P = Unit {0}
OnFull (Journal NotEmpty) P = Unit {0}
OnFull (Journal (Disk faults)) P = Unit {0}
OnFull (Journal (Damaged at)) P = Unit {0}
OnFull NoMemory P = Unit {0}
OnFull (Foreign n) P = Unit {0}

-- P, where no memory was found
abbrev pub OnNoMemory : KeepFault → Type 0 → Type 0
OnNoMemory NoMemory P = P
OnNoMemory (Journal why) P = Unit {0}
OnNoMemory (Foreign n) P = Unit {0}

-- the faults of what is made anew
abbrev pub IsOfCreate : KeepFault → Type 0
IsOfCreate (Journal NotEmpty) = Unit {0}
IsOfCreate (Journal (Full end)) = Unit {0}
IsOfCreate (Journal (Disk faults)) = Unit {0}
IsOfCreate (Journal Closed) = ⊥
IsOfCreate (Journal (Damaged at)) = ⊥
IsOfCreate NoMemory = Unit {0}
IsOfCreate (Foreign n) = ⊥

-- no memory was found, or a record isn't of the form
abbrev pub IsNoMemoryOrForeign : KeepFault → Type 0
IsNoMemoryOrForeign NoMemory = Unit {0}
IsNoMemoryOrForeign (Foreign n) = Unit {0}
IsNoMemoryOrForeign (Journal why) = ⊥

-- the faults of what stands on a disk, which are found without memory
abbrev pub IsOfRecords : KeepFault → Type 0
IsOfRecords (Journal (Disk faults)) = Unit {0}
IsOfRecords (Journal (Damaged at)) = Unit {0}
IsOfRecords (Journal Closed) = ⊥
IsOfRecords (Journal NotEmpty) = ⊥
IsOfRecords (Journal (Full end)) = ⊥
IsOfRecords NoMemory = ⊥
IsOfRecords (Foreign n) = Unit {0}

-- the faults of what is opened again
abbrev pub IsOfReopen : KeepFault → Type 0
IsOfReopen (Journal (Disk faults)) = Unit {0}
IsOfReopen (Journal (Damaged at)) = Unit {0}
IsOfReopen (Journal Closed) = ⊥
IsOfReopen (Journal NotEmpty) = ⊥
IsOfReopen (Journal (Full end)) = ⊥
IsOfReopen NoMemory = Unit {0}
IsOfReopen (Foreign n) = Unit {0}

-- The disk's count of faults rose by one where the fault is the journal's Disk, which tells it; else it
-- stayed.
abbrev pub CountsFault : ℕ → ℕ → KeepFault → Type 0
CountsFault before now (Journal why) = CountsDisk {T = ℕ} before now (Err why)
CountsFault before now NoMemory = now ≡ before
CountsFault before now (Foreign n) = now ≡ before

-- the same of a call that may answer a fault
abbrev pub Counts : {T : Type 0} → ℕ → ℕ → Result T KeepFault → Type 0
Counts before now (Ok value) = now ≡ before
Counts before now (Err fault) = CountsFault before now fault

-- it went well, or a call on the disk failed
abbrev pub IsOkOrDiskFault : {T : Type 0} → Result T KeepFault → Type 0
IsOkOrDiskFault (Ok value) = Unit {0}
IsOkOrDiskFault (Err (Journal (Disk faults))) = Unit {0}
IsOkOrDiskFault (Err (Journal Closed)) = ⊥
IsOkOrDiskFault (Err (Journal NotEmpty)) = ⊥
IsOkOrDiskFault (Err (Journal (Full end))) = ⊥
IsOkOrDiskFault (Err (Journal (Damaged at))) = ⊥
IsOkOrDiskFault (Err NoMemory) = ⊥
IsOkOrDiskFault (Err (Foreign n)) = ⊥

-- P, where the journal is closed or full, or no memory was found
abbrev pub OnStill : {T : Type 0} → Result T KeepFault → Type 0 → Type 0
OnStill (Err (Journal Closed)) P = P
OnStill (Err (Journal (Full end))) P = P
OnStill (Err NoMemory) P = P
OnStill other P = Unit {0}
