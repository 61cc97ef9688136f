-- How a desk goes on above the numbers of others that used its lane.
use Rattle.std.specs.Prelude.{◌≡◌, ◌<◌, ℕ, filter}
use Rattle.desk_ledger.specs.Ledgers.{LedgerState}
use Rattle.desk_ledger.specs.Tasks.{is_live}

-- The same pair, boxes, names and letters, a first number above this one, and nothing is under way.
pub record FollowsAbove {D E : Type 0} (number : ℕ) (old : LedgerState D) (next : LedgerState E) : Type 0 where
  pub above : number < next.client.core.client.serial
  pub boxes : next.client.core.boxes ≡ filter (is_live old.entries) old.client.core.boxes
  pub entries : next.entries ≡ old.entries
  pub pair : next.pair ≡ old.pair
