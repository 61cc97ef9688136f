use Rattle.lane_leases.proofs.LastEndLaws.{last-kept}
use Rattle.lane_leases.proofs.LeaseLaws.{last-ends-are-kept}
use Rattle.lane_leases.proofs.laws.last_ends_are_kept.Goals as goal

pub returns-clause-kept : goal.returns-clause-kept
returns-clause-kept c = last-ends-are-kept

pub returns-clause-told : goal.returns-clause-told
returns-clause-told c leases ended = last-kept leases.ends ended.hash ended.end
