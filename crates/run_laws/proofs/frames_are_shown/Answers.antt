use Rattle.run_laws.proofs.Shown as lemma
use Rattle.run_laws.proofs.frames_are_shown.Goals as goal

pub returns : goal.returns
returns c = lemma.frames_are_shown
