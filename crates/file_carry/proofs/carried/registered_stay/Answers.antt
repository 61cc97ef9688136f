use Rattle.file_carry.proofs.Registers as lemma
use Rattle.file_carry.proofs.carried.registered_stay.Goals as goal

pub returns : goal.returns
returns c = lemma.registered_stay
