use Rattle.run_rules.proofs.EveryEnd.{boxes_at_every_end, journal_at_every_end, order_at_every_end, outcomes_at_every_end, ready_at_every_end, shares_at_every_end}
use Rattle.run_rules.proofs.ForeignFollows.{foreign_runs_agree}
use Rattle.run_rules.specs.Follows.{Follows}
use Rattle.run_rules.specs.Plain.{BoxesArePlain, ClientsAreReady, JournalInOrder, JournalIsTold, OutcomesArePlain, SharesAreFolds}
use Rattle.replay_world.proofs.Strangers.{of_every_schedule}
use Rattle.replay_world.proofs.laws.schedules_hold.Goals as goal

pub returns-clause-follows : goal.returns-clause-follows
returns-clause-follows c = of_every_schedule Follows foreign_runs_agree

pub returns-clause-outcomes : goal.returns-clause-outcomes
returns-clause-outcomes c = of_every_schedule OutcomesArePlain outcomes_at_every_end

pub returns-clause-journal : goal.returns-clause-journal
returns-clause-journal c = of_every_schedule JournalIsTold journal_at_every_end

pub returns-clause-ready : goal.returns-clause-ready
returns-clause-ready c = of_every_schedule ClientsAreReady ready_at_every_end

pub returns-clause-order : goal.returns-clause-order
returns-clause-order c = of_every_schedule JournalInOrder order_at_every_end

pub returns-clause-shares : goal.returns-clause-shares
returns-clause-shares c = of_every_schedule SharesAreFolds shares_at_every_end

pub returns-clause-boxes : goal.returns-clause-boxes
returns-clause-boxes c = of_every_schedule BoxesArePlain boxes_at_every_end
