use Rattle.frame_rules.proofs.WholeLaws as law
use Rattle.frame_rules.proofs.laws.whole_as_spelled.Goals as goal

pub returns-clause-found : goal.returns-clause-found
returns-clause-found c bytes f all e = law.whole_found bytes f all e

pub returns-clause-only : goal.returns-clause-only
returns-clause-only c f bytes s = law.whole_only f bytes s

pub returns-clause-early : goal.returns-clause-early
returns-clause-early c f bytes n s lt = law.whole_early f bytes n s lt

pub returns-clause-behind : goal.returns-clause-behind
returns-clause-behind c f bytes more s some = law.whole_behind f bytes more s some
