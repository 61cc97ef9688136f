-- A request of a desk, worked off at the pair's servers.
use Rattle.std.specs.Prelude.{◌≡◌, ◌≢◌, List, None, Option, Result}
use Rattle.express_words.specs.Calls.{Call}
use Rattle.client_restart.specs.Steps.{CoreState}
use Rattle.node_client.specs.declared.peers.Peers.{Peers}
use Rattle.kept_errands.specs.declared.halt.Halt.{Halt}
use Rattle.kept_errands.specs.Works.{WorkedOff}
use Rattle.desk_ledger.specs.declared.pair.Pair.{Pair}
use Rattle.desk_ledger.specs.Ledgers.{LedgerState}

-- the request's steps at the places of this pair's servers
pub record WorksAt (p : Pair) (start new : CoreState) (result : Result Unit Halt)
    (before now : Option (List Call)) : Type 0 where
  pub peers : Peers
  pub leader : peers.leader.now ≡ p.leader
  pub helper : peers.helper.now ≡ p.helper
  pub works : WorkedOff peers start new result before now

-- those of a ledger's current request, where it has one
abbrev pub WorksIfBusy : {D : Type 0} → (old new : LedgerState D) → Result Unit Halt
    → (before now : Option (List Call)) → Type 0
WorksIfBusy old new result before now = old.client.core.client.current ≢ None
    → WorksAt old.pair old.client.core new.client.core result before now
