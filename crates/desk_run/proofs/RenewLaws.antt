-- A ledger in the place of another.
use Rattle.std.proofs.Common.{◌≡◌, List, [], Option, None, Result, Ok, Err, false}
use Rattle.std.specs.Prelude.{OnOk, is_err}
use Rattle.std.specs.List.{filter}
use Rattle.desk_entries.specs.Forgetting.{kept}
use Rattle.desk_ledger.specs.Forgetting.{next_opening}
use Rattle.desk_ledger.specs.Ledgers.{LedgerState}
use Rattle.desk_ledger.specs.Tasks.{is_live}
use Rattle.desk_outside.specs.Calls.{Adds, FolderCall, Placed}
use Rattle.desk_outside.specs.declared.folder.DeskFile.{DeskFile}
use Rattle.desk_run.specs.Changes.{FollowsLedger}

pub follows : {D E : Type 0} (old : LedgerState D) (next : LedgerState E) → next.client.opening ≡ next_opening old.client
    → next.client.core.client.serial ≡ old.client.core.client.serial
    → next.client.core.boxes ≡ filter (is_live old.entries) old.client.core.boxes → next.entries ≡ kept old.entries
    → next.pair ≡ old.pair → (next.client.core.client.current ≡ None) × (next.client.core.untold ≡ []) → FollowsLedger old next
follows old next opening serial boxes entries pair idle = record {
  opening = opening;
  serial = serial;
  boxes = boxes;
  entries = entries;
  pair = pair;
  idle = idle;
}

-- where the call went well that is told
pub placed_ok : {T E D : Type 0} (r : Result T E) (old new : Option (List (FolderCall D))) (next file : DeskFile)
    → Adds old new (Placed next file (is_err r)) → OnOk r (Adds old new (Placed next file false))
placed_ok (Ok x) old new next file placed = placed
placed_ok (Err e) old new next file placed = tt
