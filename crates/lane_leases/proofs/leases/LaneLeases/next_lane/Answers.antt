use Rattle.std.proofs.Common.{ap, ◌∙◌}
use Rattle.lane_leases.specs.Choosing.{longest_of}
use Rattle.lane_leases.specs.Leases.{LeasesState}
use Rattle.lane_leases.proofs.LongestLaws.{is-found}
use Rattle.lane_leases.proofs.leases.LaneLeases.next_lane.Goals as goal

pub returns-clause-is : goal.returns-clause-is
returns-clause-is c =
    is-found c.rows.result.now c.longest_rested.result c.longest_rested.ensures.some c.longest_rested.ensures.none
    ∙ ap longest_of c.rows.ensures.rows
    ∙ ap (λ (l : LeasesState). longest_of l.gate.rows) c.self.view_is
