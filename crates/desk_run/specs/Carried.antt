-- What is left to be done at a desk.
use Rattle.std.specs.Prelude.{◌≡◌, ◌≤◌, ◌^◌, false, Option, Some, None, length}
use Rattle.node_journal.specs.Disk.{DiskSeen}
use Rattle.desk_ledger.specs.Ledgers.{LedgerState}
use Rattle.desk_ledger.specs.Tasks.{next_task}
use Rattle.desk_outside.specs.Calls.{Adds, Looked}
use Rattle.desk_outside.specs.declared.folder.DeskFile.TheVariants.{Ledger}
use Rattle.desk_run.specs.Opens.{Opens}
use Rattle.desk_run.specs.Scenes.{Scene}
use Rattle.desk_run.specs.Works.{Goes, Settles}

-- no box is left to be registered or retired; a client has fewer than 2^32
abbrev pub HasNothingLeft : {D : Type 0} → LedgerState D → Type 0
HasNothingLeft l = length l.client.core.boxes ≤ 2 ^ 32 → next_task l.entries l.client.core.boxes ≡ None

-- The folder's ledger is opened, and what was left to be done at the desk is carried on; nothing is printed.
pub record Resumes {D : Type 0} (shows : D → DiskSeen) (old new : Scene D) (l : LedgerState D) : Type 0 where
  pub start : LedgerState D
  pub opens : Opens shows old.files new.files start
  pub goes : Goes start old.calls l new.calls
  pub nothing_left : HasNothingLeft l
  pub silent : new.written ≡ old.written

-- the same where there is a desk; where there is none nothing is done
abbrev pub ResumesIf : {D : Type 0} → (D → DiskSeen) → (old new : Scene D) → Option (LedgerState D) → Type 0
ResumesIf shows old new None = Adds old.files new.files (Looked Ledger (Some false)) × (new.calls ≡ old.calls)
    × (new.written ≡ old.written)
ResumesIf shows old new (Some l) = Resumes shows old new l

-- The folder's ledger is opened, and the request that was under way is settled; nothing is printed.
pub record ComesBack {D : Type 0} (shows : D → DiskSeen) (old new : Scene D) (l : LedgerState D) : Type 0 where
  pub start : LedgerState D
  pub opens : Opens shows old.files new.files start
  pub settles : Settles None start l old.calls new.calls
  pub silent : new.written ≡ old.written

-- R, of each scene from which the desk came back as this ledger and at mid
abbrev pub OnceBack : {D : Type 0} → (D → DiskSeen) → LedgerState D → (mid : Scene D)
    → (Scene D → Type 0) → Type 0
OnceBack shows l mid R = (old : Scene _) → ComesBack shows old mid l → R old

-- R, of each scene from which the desk was resumed to this ledger and to mid
abbrev pub OnceResumed : {D : Type 0} → (D → DiskSeen) → LedgerState D → (mid : Scene D)
    → (Scene D → Type 0) → Type 0
OnceResumed shows l mid R = (old : Scene _) → Resumes shows old mid l → R old
