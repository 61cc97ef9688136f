use Rattle.run_rules.proofs.WholeTruths.{outcomes_at_end, journal_at_end, shares_at_end, boxes_at_end, order_at_end}
use Rattle.run_rules.proofs.schedules_are_plain.Goals as goal

pub returns-clause-outcomes : goal.returns-clause-outcomes
returns-clause-outcomes c = outcomes_at_end

pub returns-clause-journal : goal.returns-clause-journal
returns-clause-journal c = journal_at_end

pub returns-clause-shares : goal.returns-clause-shares
returns-clause-shares c = shares_at_end

pub returns-clause-boxes : goal.returns-clause-boxes
returns-clause-boxes c = boxes_at_end

pub returns-clause-order : goal.returns-clause-order
returns-clause-order c = order_at_end
