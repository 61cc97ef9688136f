use Rattle.run_laws.proofs.Owners as lemma
use Rattle.run_laws.proofs.owners_keep_theirs.Goals as goal

pub returns : goal.returns
returns c = lemma.owners_keep_theirs
