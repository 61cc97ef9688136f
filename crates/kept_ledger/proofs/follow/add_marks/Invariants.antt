use Rattle.std.proofs.Common.{◌≡◌, ◌++◌, length, map}
use Rattle.kept_ledger.specs.Notes.{Marked, plain_note}
use Rattle.kept_ledger.proofs.follow.add_marks.Given as goal

abbrev pub invariant-loop-rest : goal.invariant-loop-rest
invariant-loop-rest l =
    map plain_note l.notes.items ++ map Marked l.rest ≡ map plain_note l.fn.notes.items ++ map Marked l.marks

abbrev pub decreases-loop-rest : goal.decreases-loop-rest
decreases-loop-rest l = length l.rest
