use Rattle.std.proofs.Common.{◌≡◌, length, map}
use Rattle.std.specs.List.{list_any}
use Rattle.desk_entries.specs.Letters.{has_id}
use Rattle.desk_entries.proofs.letters.has_id_among.Given as goal

abbrev pub invariant-loop-rest : goal.invariant-loop-rest
invariant-loop-rest l =
    list_any (has_id l.id) (map (λ r. r.now) l.rest) ≡ list_any (has_id l.id) (map (λ r. r.now) l.told)

abbrev pub decreases-loop-rest : goal.decreases-loop-rest
decreases-loop-rest l = length l.rest
