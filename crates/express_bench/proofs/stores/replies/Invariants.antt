use Rattle.std.proofs.Common.{◌≡◌, length}
use Rattle.express_bench.proofs.stores.replies.Given as goal

abbrev pub invariant-loop-lane : goal.invariant-loop-lane
invariant-loop-lane l = (length l.lanes.lanes ≡ 256) × (l.lanes.room ≡ 8213)
