use Rattle.door_asks.proofs.ReadBack.{ask_alone}
use Rattle.door_asks.proofs.laws.asks_end_alone.Goals as goal

pub returns : goal.returns
returns c = ask_alone
