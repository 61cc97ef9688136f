use Rattle.std.proofs.Common.{◌≡◌, ◌-◌, length}
use Rattle.std.specs.List.{flat_map}
use Rattle.kept_ledger.specs.Standings.{waiting_at}
use Rattle.kept_ledger.proofs.ledger.Ledger.less_waiting.Given as goal

abbrev pub invariant-loop-rest : goal.invariant-loop-rest
invariant-loop-rest l =
    l.left - length (flat_map (waiting_at l.self.state) l.rest)
    ≡ l.boxes - length (flat_map (waiting_at l.self.state) l.self.state.named)

abbrev pub decreases-loop-rest : goal.decreases-loop-rest
decreases-loop-rest l = length l.rest
