use Rattle.door_asks.proofs.ReadBack.{answer_back}
use Rattle.door_asks.proofs.laws.answers_are_read_back.Goals as goal

pub returns : goal.returns
returns c = answer_back
