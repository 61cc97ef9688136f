use Rattle.step_laws.proofs.HelperCauses.{helper_answers}
use Rattle.step_laws.proofs.LeaderCauses.{leader_answers}
use Rattle.step_laws.proofs.refusals_have_causes.Goals as goal

pub returns : goal.returns
returns c = record { leader = leader_answers; helper = helper_answers }
