use Rattle.door_asks.proofs.ReadBack.{ask_back}
use Rattle.door_asks.proofs.laws.asks_are_read_back.Goals as goal

pub returns : goal.returns
returns c = ask_back
