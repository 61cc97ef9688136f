use Rattle.std.proofs.Common.{◌≡◌, length}
use Rattle.express_bench.proofs.stores.shares.Given as goal

abbrev pub invariant-loop-box_number : goal.invariant-loop-box_number
invariant-loop-box_number l = (length l.store.boxes ≡ 4096) × (l.store.width ≡ 4096)
