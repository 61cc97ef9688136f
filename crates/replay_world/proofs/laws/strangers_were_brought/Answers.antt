use Rattle.replay_world.proofs.Strangers.{strangers_were_brought}
use Rattle.replay_world.proofs.laws.strangers_were_brought.Goals as goal

pub returns : goal.returns
returns c = strangers_were_brought
