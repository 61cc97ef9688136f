use Rattle.std.proofs.Common.{◌≡◌, ℕ, ◌<◌, ◌≤◌, get_or, length}
use Rattle.field_tables.specs.Powers.{power_of}
use Rattle.field_tables.proofs.tables.Tables.new.Given as goal

abbrev pub invariant-loop-i : goal.invariant-loop-i
invariant-loop-i l =
    record {
      power_length : length l.power ≡ 1021;
      log_length : length l.log ≡ 256;
      present : l.x ≡ power_of l.i;
      powers : (j : ℕ) → j < l.i → get_or l.power j 0 ≡ power_of j;
      zeros : (j : ℕ) → l.i ≤ j → get_or l.power j 0 ≡ 0;
      log_of_zero : get_or l.log 0 0 ≡ 510;
      logs : (j : ℕ) → j < l.i → j < 255 → get_or l.log (power_of j) 0 ≡ j;
    }
