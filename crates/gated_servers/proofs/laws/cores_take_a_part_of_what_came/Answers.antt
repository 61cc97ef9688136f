use Rattle.gated_servers.proofs.PartLaws.{helpers_take, leaders_take}
use Rattle.gated_servers.proofs.laws.cores_take_a_part_of_what_came.Goals as goal

pub returns-clause-helper : goal.returns-clause-helper
returns-clause-helper c = helpers_take

pub returns-clause-leader : goal.returns-clause-leader
returns-clause-leader c = leaders_take
