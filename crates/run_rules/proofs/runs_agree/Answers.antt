use Rattle.run_rules.proofs.ForeignFollows.{foreign_runs_agree}
use Rattle.run_rules.proofs.WholeTruths.{follows_at_end, clients_at_end}
use Rattle.run_rules.proofs.runs_agree.Goals as goal

pub returns-clause-follows : goal.returns-clause-follows
returns-clause-follows c = follows_at_end

pub returns-clause-clients : goal.returns-clause-clients
returns-clause-clients c = clients_at_end

pub returns-clause-strangers : goal.returns-clause-strangers
returns-clause-strangers c = foreign_runs_agree
