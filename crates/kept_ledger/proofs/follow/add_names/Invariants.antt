use Rattle.std.proofs.Common.{◌≡◌, ◌++◌, length, map}
use Rattle.std.specs.List.{flat_map}
use Rattle.kept_ledger.specs.Follow.{name_notes}
use Rattle.kept_ledger.specs.Notes.{plain_note}
use Rattle.kept_ledger.proofs.follow.add_names.Given as goal

abbrev pub invariant-loop-rest : goal.invariant-loop-rest
invariant-loop-rest l =
    map plain_note l.notes.items ++ flat_map name_notes l.rest ≡ map plain_note l.fn.notes.items ++ flat_map name_notes l.named

abbrev pub decreases-loop-rest : goal.decreases-loop-rest
decreases-loop-rest l = length l.rest
