use Rattle.std.proofs.Common.{◌≡◌, length, map}
use Rattle.std.specs.List.{fold}
use Rattle.desk_entries.specs.Letters.{letters_of, told_with}
use Rattle.desk_entries.proofs.letters.letters_of.Given as goal

abbrev pub invariant-loop-rest : goal.invariant-loop-rest
invariant-loop-rest l = fold told_with (map (λ r. r.now) l.told.items) l.rest ≡ letters_of l.entries

abbrev pub decreases-loop-rest : goal.decreases-loop-rest
decreases-loop-rest l = length l.rest
