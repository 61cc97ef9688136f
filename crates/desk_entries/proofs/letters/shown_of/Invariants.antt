use Rattle.std.proofs.Common.{◌≡◌, length}
use Rattle.std.specs.List.{fold}
use Rattle.desk_entries.specs.Letters.{shown_of, shown_with}
use Rattle.desk_entries.proofs.letters.shown_of.Given as goal

abbrev pub invariant-loop-rest : goal.invariant-loop-rest
invariant-loop-rest l = fold shown_with l.shown l.rest ≡ shown_of l.entries

abbrev pub decreases-loop-rest : goal.decreases-loop-rest
decreases-loop-rest l = length l.rest
