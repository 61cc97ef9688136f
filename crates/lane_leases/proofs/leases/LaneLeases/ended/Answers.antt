use Rattle.std.proofs.Common.{ap, ◌∙◌}
use Rattle.lane_leases.specs.Ends.{last_end}
use Rattle.lane_leases.specs.Leases.{LeasesState}
use Rattle.lane_leases.proofs.LastEndLaws.{is-last-end}
use Rattle.lane_leases.proofs.leases.LaneLeases.ended.Goals as goal

pub returns-clause-is : goal.returns-clause-is
returns-clause-is c =
    is-last-end c.self.inside.ends.items c.args.hash.now c.end_of.result c.end_of.ensures
    ∙ ap (λ (l : LeasesState). last_end l.ends c.args.hash.now) c.self.view_is
