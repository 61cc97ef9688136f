use Rattle.run_rules.proofs.FinishAnswers.{finish_answers}
use Rattle.run_rules.proofs.FinishDrains.{finish_drains}
use Rattle.run_rules.proofs.WholeFinish.{finish_always_ends}
use Rattle.run_rules.proofs.finish_answers.Goals as goal

pub returns-clause-always : goal.returns-clause-always
returns-clause-always c = finish_always_ends

pub returns-clause-drains : goal.returns-clause-drains
returns-clause-drains c = finish_drains

pub returns-clause-answers : goal.returns-clause-answers
returns-clause-answers c = finish_answers
