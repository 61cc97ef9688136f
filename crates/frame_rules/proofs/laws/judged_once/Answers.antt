use Rattle.frame_rules.proofs.GrammarLaws as law
use Rattle.frame_rules.proofs.laws.judged_once.Goals as goal

pub returns-clause-short : goal.returns-clause-short
returns-clause-short c f bytes n s lt = law.prefix_short f bytes n s lt

pub returns-clause-frame : goal.returns-clause-frame
returns-clause-frame c a more x e = law.frame_stays a more x e

pub returns-clause-fault : goal.returns-clause-fault
returns-clause-fault c a more d n e = law.fault_stays a more d n e
