use Rattle.run_rules.proofs.EveryEnd.{boxes_at_every_end, history_at_every_end, journal_at_every_end, order_at_every_end, outcomes_at_every_end, ready_at_every_end, shares_at_every_end}
use Rattle.run_rules.proofs.strangers_are_counted.Goals as goal

pub returns-clause-history : goal.returns-clause-history
returns-clause-history c = history_at_every_end

pub returns-clause-outcomes : goal.returns-clause-outcomes
returns-clause-outcomes c = outcomes_at_every_end

pub returns-clause-journal : goal.returns-clause-journal
returns-clause-journal c = journal_at_every_end

pub returns-clause-ready : goal.returns-clause-ready
returns-clause-ready c = ready_at_every_end

pub returns-clause-order : goal.returns-clause-order
returns-clause-order c = order_at_every_end

pub returns-clause-shares : goal.returns-clause-shares
returns-clause-shares c = shares_at_every_end

pub returns-clause-boxes : goal.returns-clause-boxes
returns-clause-boxes c = boxes_at_every_end
