use Rattle.run_rules.proofs.PlainTables.{shares_are_plain, results_are_plain}
use Rattle.run_rules.proofs.PlainRegistered.{registered_accepted}
use Rattle.run_rules.proofs.shares_are_plain.Goals as goal

pub returns-clause-boxes : goal.returns-clause-boxes
returns-clause-boxes c = shares_are_plain

pub returns-clause-results : goal.returns-clause-results
returns-clause-results c = results_are_plain

pub returns-clause-accepted : goal.returns-clause-accepted
returns-clause-accepted c = registered_accepted
