use Rattle.file_carry.proofs.Worked as lemma
use Rattle.file_carry.proofs.carried.two_parts_are_carried.Goals as goal

pub returns : goal.returns
returns c = lemma.two_parts_are_carried
