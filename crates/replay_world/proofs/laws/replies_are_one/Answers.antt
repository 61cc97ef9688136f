use Rattle.replay_world.proofs.OneReply.{replies_are_one}
use Rattle.replay_world.proofs.laws.replies_are_one.Goals as goal

pub returns : goal.returns
returns c = replies_are_one
