use Rattle.step_laws.proofs.Lanes.{deposit_is_held, later_is_taken, requests_go_on}
use Rattle.step_laws.proofs.lanes_go_on.Goals as goal

pub returns : goal.returns
returns c = record { leader = later_is_taken; helper = deposit_is_held; client = requests_go_on }
