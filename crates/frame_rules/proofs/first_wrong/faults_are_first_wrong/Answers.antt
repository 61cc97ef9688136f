use Rattle.frame_rules.proofs.FieldLaws as law
use Rattle.frame_rules.proofs.first_wrong.faults_are_first_wrong.Goals as goal

pub returns-clause-found : goal.returns-clause-found
returns-clause-found c bytes d e long = law.found bytes d e long

pub returns-clause-only : goal.returns-clause-only
returns-clause-only c bytes d w = law.only bytes d w

pub returns-clause-none : goal.returns-clause-none
returns-clause-none c bytes none = law.none_wrong bytes none
