use Rattle.lane_table.proofs.ChangeLaws.{lane_at-after, length-after}
use Rattle.lane_table.proofs.laws.lanes_keep_their_last.Goals as goal

pub returns-clause-last : goal.returns-clause-last
returns-clause-last c = lane_at-after

pub returns-clause-number : goal.returns-clause-number
returns-clause-number c = length-after
