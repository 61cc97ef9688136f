use Rattle.lane_gate.proofs.PassingLaws.{hands-on-a-part, hands-on-one-list}
use Rattle.lane_gate.proofs.laws.what_passed_is_a_part_of_what_came.Goals as goal

pub returns-clause-part : goal.returns-clause-part
returns-clause-part c = hands-on-a-part

pub returns-clause-one : goal.returns-clause-one
returns-clause-one c = hands-on-one-list
