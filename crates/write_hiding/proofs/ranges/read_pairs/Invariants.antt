use Rattle.std.proofs.Common.{ℕ, ◌<◌, ◌^◌, get_or}
use Rattle.write_hiding.proofs.ranges.read_pairs.Given as goal

abbrev pub invariant-loop-i : goal.invariant-loop-i
invariant-loop-i l = (k : ℕ) → (d : ℕ × ℕ) → k < l.i → ((get_or l.pairs k d).0 < 2 ^ 128) × ((get_or l.pairs k d).1 < 2 ^ 128)
