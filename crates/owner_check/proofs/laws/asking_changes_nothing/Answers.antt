use Rattle.owner_check.proofs.AskLaws.{keeps_leader, keeps_other, keeps_when_asked, keeps_helper}
use Rattle.owner_check.proofs.laws.asking_changes_nothing.Goals as goal

pub returns-clause-leader : goal.returns-clause-leader
returns-clause-leader c = keeps_leader

pub returns-clause-other : goal.returns-clause-other
returns-clause-other c = keeps_other

pub returns-clause-width : goal.returns-clause-width
returns-clause-width c = keeps_when_asked

pub returns-clause-helper : goal.returns-clause-helper
returns-clause-helper c = keeps_helper
