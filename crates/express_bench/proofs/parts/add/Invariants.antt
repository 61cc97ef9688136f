use Rattle.std.proofs.Common.{◌≡◌, length}
use Rattle.dpf_rules.specs.Walk.{last_of}
use Rattle.express_bench.proofs.parts.add.Given as goal

abbrev pub invariant-loop-time : goal.invariant-loop-time
invariant-loop-time l = (length (last_of l.part) ≡ l.store.width) × (length l.store.boxes ≡ l.boxes)
