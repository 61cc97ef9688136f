use Rattle.step_laws.proofs.Points.{helper_tells_no_point, leader_tells_no_point}
use Rattle.step_laws.proofs.points_are_untold.Goals as goal

pub returns : goal.returns
returns c = record { leader = leader_tells_no_point; helper = helper_tells_no_point }
