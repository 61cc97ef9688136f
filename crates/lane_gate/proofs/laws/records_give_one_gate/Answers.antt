use Rattle.lane_gate.proofs.RecordLaws.{records-give-one-gate}
use Rattle.lane_gate.proofs.laws.records_give_one_gate.Goals as goal

pub returns : goal.returns
returns c = records-give-one-gate
