use Rattle.frame_rules.proofs.GrammarLaws as law
use Rattle.frame_rules.proofs.laws.read_as_spelled.Goals as goal

pub returns-clause-read : goal.returns-clause-read
returns-clause-read c bytes f len all e = let d = law.decoded_takes bytes f len (law.bytes_of bytes all) e in (d.spells, d.whole)

pub returns-clause-again : goal.returns-clause-again
returns-clause-again c f bytes rest s = law.spells_again f bytes rest s
