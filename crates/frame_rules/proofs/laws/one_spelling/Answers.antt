use Rattle.frame_rules.proofs.GrammarLaws as law
use Rattle.frame_rules.proofs.laws.one_spelling.Goals as goal

pub returns-clause-one : goal.returns-clause-one
returns-clause-one c f a b s t = law.one_spelling f a b s t

pub returns-clause-no_prefix : goal.returns-clause-no_prefix
returns-clause-no_prefix c f g a more s t = law.no_prefix f g a more s t
