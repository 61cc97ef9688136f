use Rattle.file_carry.proofs.Plain as lemma
use Rattle.file_carry.proofs.carried.plain_writes_add.Goals as goal

pub returns : goal.returns
returns c = lemma.plain_writes_add
