use Rattle.replay_world.proofs.MillSchedules as lemma
use Rattle.replay_world.proofs.laws.mills_count.Goals as goal

pub returns : goal.returns
returns c = lemma.mills_count
