use Rattle.lane_leases.proofs.LeaseLaws.{one-rested-longest, leader-leases-rise}
use Rattle.lane_leases.proofs.laws.leases_rise.Goals as goal

pub returns-clause-lane : goal.returns-clause-lane
returns-clause-lane c = one-rested-longest

pub returns-clause-rise : goal.returns-clause-rise
returns-clause-rise c = leader-leases-rise
