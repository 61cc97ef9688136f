use Rattle.lane_leases.proofs.OneLaws.{records-give-one-leader}
use Rattle.lane_leases.proofs.laws.records_give_one_gate.Goals as goal

pub returns : goal.returns
returns c = records-give-one-leader
