use Rattle.step_rules.proofs.HelperNeeds.{helper_needs}
use Rattle.step_rules.proofs.LeaderNeeds.{leader_needs}
use Rattle.step_rules.proofs.needs.commands_need.Goals as goal

pub returns-clause-helper : goal.returns-clause-helper
returns-clause-helper c = helper_needs

pub returns-clause-leader : goal.returns-clause-leader
returns-clause-leader c = leader_needs
