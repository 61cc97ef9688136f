-- What is said of a fault says what follows from it.
use Rattle.std.proofs.Common.{◌≡◌, ℕ, Result, refl, subst}
use Rattle.std.specs.Prelude.{IsErrOf}
use Rattle.node_journal.specs.declared.fault.JournalFault.{JournalFault}
use Rattle.node_journal.specs.declared.fault.JournalFault.TheVariants.{Closed, NotEmpty, Full, Disk, Damaged}
use Rattle.kept_machine.specs.declared.fault.KeepFault.{KeepFault}
use Rattle.kept_machine.specs.declared.fault.KeepFault.TheVariants.{Journal, NoMemory, Foreign}
use Rattle.kept_machine.specs.Faults.{OnForeign, OnDamaged, OnFull, OnNotEmpty, OnNoMemory, OnStill}

pub on_foreign : (why : KeepFault) (P Q : ℕ → Type 0) → ((n : ℕ) → P n → Q n) → OnForeign why P → OnForeign why Q
on_foreign (Foreign n) P Q follows p = follows n p
on_foreign NoMemory P Q follows p = tt
on_foreign (Journal why) P Q follows p = tt

pub on_damaged : (why : KeepFault) (P Q : ℕ → Type 0) → ((n : ℕ) → P n → Q n) → OnDamaged why P → OnDamaged why Q
on_damaged (Journal (Damaged at)) P Q follows p = follows at p
on_damaged (Journal Closed) P Q follows p = tt
on_damaged (Journal NotEmpty) P Q follows p = tt
on_damaged (Journal (Full end)) P Q follows p = tt
on_damaged (Journal (Disk faults)) P Q follows p = tt
on_damaged NoMemory P Q follows p = tt
on_damaged (Foreign n) P Q follows p = tt

pub on_not_empty : (why : JournalFault) (P : Type 0) → (why ≡ NotEmpty → P) → OnNotEmpty (Journal why) P
on_not_empty NotEmpty P follows = follows refl
on_not_empty Closed P follows = tt
on_not_empty (Full end) P follows = tt
on_not_empty (Disk faults) P follows = tt
on_not_empty (Damaged at) P follows = tt

pub on_full : (why : JournalFault) (P : ℕ → Type 0) → ((n : ℕ) → why ≡ Full n → P n) → OnFull (Journal why) P
on_full (Full end) P follows = follows end refl
on_full Closed P follows = tt
on_full NotEmpty P follows = tt
on_full (Disk faults) P follows = tt
on_full (Damaged at) P follows = tt

pub on_no_memory : (why : KeepFault) (P Q R : Type 0) → (P → Q → R) → OnNoMemory why P → OnNoMemory why Q → OnNoMemory why R
on_no_memory NoMemory P Q R follows p q = follows p q
on_no_memory (Foreign n) P Q R follows p q = tt
on_no_memory (Journal why) P Q R follows p q = tt

pub still_closed : {T : Type 0} (r : Result T KeepFault) (P : Type 0) → IsErrOf r (Journal Closed) → OnStill r P → P
still_closed r P is p = subst (λ x. OnStill x P) is p

pub still_full : {T : Type 0} (r : Result T KeepFault) (P : Type 0) (end : ℕ) → IsErrOf r (Journal (Full end)) → OnStill r P → P
still_full r P end is p = subst (λ x. OnStill x P) is p

pub with_no_memory : (why : KeepFault) (P Q : Type 0) → (P → Q) → OnNoMemory why P → OnNoMemory why Q
with_no_memory NoMemory P Q follows p = follows p
with_no_memory (Foreign n) P Q follows p = tt
with_no_memory (Journal why) P Q follows p = tt
