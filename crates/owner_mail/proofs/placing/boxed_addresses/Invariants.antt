use Rattle.std.proofs.Common.{◌≡◌, ◌++◌, length}
use Rattle.std.specs.List.{filter}
use Rattle.kept_ledger.specs.Standings.{addresses_in, named_boxes}
use Rattle.owner_mail.specs.Places.{has_box_at}
use Rattle.owner_mail.proofs.placing.boxed_addresses.Given as goal

abbrev pub invariant-loop-rest : goal.invariant-loop-rest
invariant-loop-rest l =
    l.found.items ++ filter (has_box_at l.ledger.state) l.rest
    ≡ filter (has_box_at l.ledger.state) (addresses_in (named_boxes l.ledger.state.named l.name))

abbrev pub decreases-loop-rest : goal.decreases-loop-rest
decreases-loop-rest l = length l.rest
