use Rattle.std.proofs.Common.{◌≡◌, ◌+◌, ◌≤◌, ◌^◌, ◌++◌, length}
use Rattle.kept_ledger.specs.Tasks.{is_live, places_of}
use Rattle.kept_ledger.proofs.ledger.Ledger.live.Given as goal

abbrev pub invariant-loop-rest : goal.invariant-loop-rest
invariant-loop-rest l =
    record {
      all : l.own + length l.rest ≡ length l.self.state.boxes;
      same : length l.self.state.boxes ≤ 2 ^ 32
          → l.live.items ++ places_of is_live l.own l.rest ≡ places_of is_live 0 l.self.state.boxes;
    }

abbrev pub decreases-loop-rest : goal.decreases-loop-rest
decreases-loop-rest l = length l.rest
