use Rattle.step_rules.proofs.HelperFirsts.{helper_goes_on, helper_takes_first}
use Rattle.step_rules.proofs.LeaderFirsts.{leader_goes_on}
use Rattle.step_rules.proofs.needs.firsts_stand.Goals as goal

pub returns-clause-helper : goal.returns-clause-helper
returns-clause-helper c = helper_takes_first

pub returns-clause-commands : goal.returns-clause-commands
returns-clause-commands c = helper_goes_on

pub returns-clause-leader : goal.returns-clause-leader
returns-clause-leader c = leader_goes_on
