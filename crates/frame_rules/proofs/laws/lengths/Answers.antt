use Rattle.frame_rules.proofs.Longest as law
use Rattle.frame_rules.proofs.Waiting as waiting
use Rattle.frame_rules.proofs.laws.lengths.Goals as goal

pub returns-clause-least : goal.returns-clause-least
returns-clause-least c f bytes s = (law.spells_limit f bytes s).0

pub returns-clause-most : goal.returns-clause-most
returns-clause-most c f bytes s = (law.spells_limit f bytes s).1

pub returns-clause-reached : goal.returns-clause-reached
returns-clause-reached c = law.longest

pub returns-clause-short : goal.returns-clause-short
returns-clause-short c bytes e = (waiting.decoded_short bytes e).most
