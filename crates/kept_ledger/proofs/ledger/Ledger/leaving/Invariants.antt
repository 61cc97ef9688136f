use Rattle.std.proofs.Common.{◌≡◌, ◌+◌, length}
use Rattle.kept_ledger.specs.Tasks.{is_leaving, place_of}
use Rattle.kept_ledger.proofs.ledger.Ledger.leaving.Given as goal

abbrev pub invariant-loop-rest : goal.invariant-loop-rest
invariant-loop-rest l =
    record {
      all : l.own + length l.rest ≡ length l.self.state.boxes;
      same : place_of (is_leaving l.self.state) l.own l.rest
          ≡ place_of (is_leaving l.self.state) 0 l.self.state.boxes;
    }

abbrev pub decreases-loop-rest : goal.decreases-loop-rest
decreases-loop-rest l = length l.rest
