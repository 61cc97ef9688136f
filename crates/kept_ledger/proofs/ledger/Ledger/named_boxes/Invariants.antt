use Rattle.std.proofs.Common.{◌≡◌, length}
use Rattle.kept_ledger.specs.Standings.{named_boxes}
use Rattle.kept_ledger.proofs.ledger.Ledger.named_boxes.Given as goal

abbrev pub invariant-loop-rest : goal.invariant-loop-rest
invariant-loop-rest l = named_boxes l.rest l.name ≡ named_boxes l.self.state.named l.name

abbrev pub decreases-loop-rest : goal.decreases-loop-rest
decreases-loop-rest l = length l.rest
