use Rattle.std.proofs.Common.{refl}
use Rattle.dpf_rules.specs.Evaluation.{prefixes_below}
use Rattle.dpf_eval.proofs.counts.worked_counts.Goals as goal

pub returns-clause-none : goal.returns-clause-none
unfolding prefixes_below
returns-clause-none c = refl

pub returns-clause-one : goal.returns-clause-one
unfolding prefixes_below
returns-clause-one c address = refl

pub returns-clause-neighbours : goal.returns-clause-neighbours
unfolding prefixes_below
returns-clause-neighbours c = refl

pub returns-clause-far : goal.returns-clause-far
unfolding prefixes_below
returns-clause-far c = refl
