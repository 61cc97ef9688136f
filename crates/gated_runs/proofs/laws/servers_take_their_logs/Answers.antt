use Rattle.gated_runs.proofs.HelperLaws.{helpers-take}
use Rattle.gated_runs.proofs.LeaderLaws.{leaders-take}
use Rattle.gated_runs.proofs.laws.servers_take_their_logs.Goals as goal

pub returns-clause-helper : goal.returns-clause-helper
returns-clause-helper c = helpers-take c.cores_take_a_part_of_what_came.ensures.helper

pub returns-clause-leader : goal.returns-clause-leader
returns-clause-leader c = leaders-take c.cores_take_a_part_of_what_came.ensures.leader
