use Rattle.lane_gate.proofs.LeaseLaws.{leases-rise}
use Rattle.lane_gate.proofs.laws.leases_rise.Goals as goal

pub returns : goal.returns
returns c = leases-rise
