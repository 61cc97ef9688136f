use Rattle.std.proofs.Common.{◌≡◌, ℕ, ◌*◌, ◌/◌, ◌%◌, ◌^◌, ◌<◌, get_or, length}
use Rattle.sliced_sums.proofs.bytes.row.Given as goal

abbrev pub invariant-loop-j : goal.invariant-loop-j
invariant-loop-j l =
    record {
      size : length l.row ≡ 256;
      held : (i : ℕ) → i < l.j → get_or l.row i 0 ≡ get_or l.numbers i 0 / 2 ^ (8 * l.at) % 2 ^ 8;
    }
