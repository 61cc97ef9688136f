use Rattle.std.proofs.Common.{◌≡◌, ◌+◌, ◌≤◌, count_by, length, map}
use Rattle.desk_entries.specs.Letters.{has_no_text}
use Rattle.desk_entries.proofs.unseen.count_without_text.Given as goal

abbrev pub invariant-loop-rest : goal.invariant-loop-rest
invariant-loop-rest l =
    record {
      few : l.count + length l.rest ≤ length l.letters;
      counted : l.count + count_by has_no_text (map (λ r. r.now) l.rest) ≡ count_by has_no_text (map (λ r. r.now) l.letters);
    }

abbrev pub decreases-loop-rest : goal.decreases-loop-rest
decreases-loop-rest l = length l.rest
