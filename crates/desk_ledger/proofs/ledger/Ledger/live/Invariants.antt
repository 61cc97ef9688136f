use Rattle.std.proofs.Common.{◌≡◌, ◌+◌, ◌≤◌, ◌^◌, ◌++◌, length}
use Rattle.desk_ledger.specs.Tasks.{is_live, places_of}
use Rattle.desk_ledger.proofs.ledger.Ledger.live.Given as goal

abbrev pub invariant-loop-rest : goal.invariant-loop-rest
invariant-loop-rest g l =
    record {
      all : l.own + length l.rest ≡ length l.self.client.core.boxes;
      same : length l.self.client.core.boxes ≤ 2 ^ 32
          → l.live.items ++ places_of (is_live l.self.entries) l.own l.rest
          ≡ places_of (is_live l.self.entries) 0 l.self.client.core.boxes;
    }

abbrev pub decreases-loop-rest : goal.decreases-loop-rest
decreases-loop-rest g l = length l.rest
