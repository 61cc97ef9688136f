use Rattle.frame_rules.proofs.GatheringLaws as law
use Rattle.frame_rules.proofs.laws.gathered_in_any_pieces.Goals as goal

pub returns-clause-pieces : goal.returns-clause-pieces
returns-clause-pieces c held a b = law.pieces held a b

pub returns-clause-held : goal.returns-clause-held
returns-clause-held c stream = law.gathers stream

pub returns-clause-only : goal.returns-clause-only
returns-clause-only c stream a b g h = law.one_held stream a b g h
