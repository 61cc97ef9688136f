use Rattle.file_carry.proofs.Joins as lemma
use Rattle.file_carry.proofs.carried.unwritten_is_missing.Goals as goal

pub returns : goal.returns
returns c = lemma.unwritten_is_missing
