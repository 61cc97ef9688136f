use Rattle.std.proofs.Common.{◌≡◌, ◌+◌, length}
use Rattle.desk_ledger.specs.Tasks.{is_leaving, place_of}
use Rattle.desk_ledger.proofs.ledger.Ledger.leaving.Given as goal

abbrev pub invariant-loop-rest : goal.invariant-loop-rest
invariant-loop-rest g l =
    record {
      all : l.own + length l.rest ≡ length l.self.client.core.boxes;
      same : place_of (is_leaving l.self.entries) l.own l.rest
          ≡ place_of (is_leaving l.self.entries) 0 l.self.client.core.boxes;
    }

abbrev pub decreases-loop-rest : goal.decreases-loop-rest
decreases-loop-rest g l = length l.rest
