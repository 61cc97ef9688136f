use Rattle.std.proofs.Common.{◌≡◌, ◌++◌, length, map}
use Rattle.std.specs.List.{filter_map}
use Rattle.kept_ledger.specs.Standings.{readings_of}
use Rattle.owner_mail.specs.Places.{placed}
use Rattle.owner_mail.proofs.placing.box_readings.Given as goal

abbrev pub invariant-loop-rest : goal.invariant-loop-rest
invariant-loop-rest l =
    l.found.items ++ filter_map (placed l.card l.width) (map (λ r. r.now) l.rest)
    ≡ filter_map (placed l.card l.width) (readings_of l.ledger.state l.name)

abbrev pub decreases-loop-rest : goal.decreases-loop-rest
decreases-loop-rest l = length l.rest
