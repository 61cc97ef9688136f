-- The faults of a server that isn't opened, and the first fault of one that was: its journal isn't closed.
use Rattle.std.proofs.Common.{◌≡◌, ◌≢◌, ℕ, ◌+◌, false, List, [], ◌∷◌, length, refl, arith}
use Rattle.node_journal.specs.Disk.{DiskSeen, Within}
use Rattle.node_journal.specs.Journal.{JournalState, longer}
use Rattle.node_journal.specs.Records.{content}
use Rattle.kept_machine.specs.Faults.{OnForeign, OnDamaged}
use Rattle.node_restart.specs.Frames.{Handed, IsForeign}
use Rattle.node_restart.specs.Kept.{KeptState, IsDamagedAt}
use Rattle.kept_machine.specs.declared.fault.KeepFault.{KeepFault}
use Rattle.node_restart.specs.declared.opening.Opening.{Opening}
use Rattle.node_restart.specs.Keeping.{KeepsUpTo, journal_after, kept_of}
use Rattle.node_serve.specs.KeptOpening.{IsFirstFault, IsOfOpening, IsCauseOf}
use Rattle.node_serve.specs.declared.open_fault.OpenFault.TheVariants as opening

-- what a fault says of a disk it says of that disk before, where a read gives the same
pub cause_before : (fault : KeepFault) (limit : ℕ) (o : Opening) (first reads : List ℕ → Type 0) → Within first reads → ((c : List ℕ) → first c → c ≢ [])
    → OnForeign fault (λ n. (c : List ℕ) → reads c → IsForeign n (content c)) → OnDamaged fault (λ n. (c : List ℕ) → reads c → IsDamagedAt limit n c)
    → IsCauseOf (opening.Keep fault) limit o first
cause_before fault limit o first reads still some foreign damaged = grind arith

-- frames that were kept close no journal
after_closed : (j : JournalState) (frames : List Handed) → (journal_after j frames).closed ≡ j.closed
after_closed j [] = refl
after_closed j (h ∷ frames) = after_closed (longer (length h.frame + 1) j) frames

pub first_fault : {D : Type 0} (shows : D → DiskSeen) (old new : KeptState D) (frames : List Handed) (refused : Handed)
    (fault : KeepFault) → old.journal.closed ≡ false
    → KeepsUpTo shows old new frames refused fault → IsFirstFault fault
first_fault shows old new frames refused fault unclosed upto =
    grind (arith, upto.refuses.cause, upto.keeps.adds.journal, after_closed old.journal (kept_of frames))

pub opening_fault : (fault : KeepFault) → IsOfOpening (opening.Keep fault) → IsFirstFault fault
opening_fault fault kind = grind arith
