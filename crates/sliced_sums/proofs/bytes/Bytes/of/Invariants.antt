use Rattle.std.proofs.Common.{◌≡◌, ℕ, ◌*◌, ◌/◌, ◌%◌, ◌^◌, ◌<◌, [], get_or, length}
use Rattle.sliced_sums.proofs.bytes.Bytes.of.Given as goal

abbrev pub invariant-loop-at : goal.invariant-loop-at
invariant-loop-at l =
    record {
      size : length l.bytes ≡ 16;
      held : (b : ℕ) → b < l.at → (j : ℕ) → j < 256 → get_or (get_or l.bytes b []) j 0 ≡ get_or l.numbers j 0 / 2 ^ (8 * b) % 2 ^ 8;
    }
