use Rattle.link_order.proofs.CallLaws.{goes_in_order}
use Rattle.link_order.proofs.laws.commands_go_in_order.Goals as goal

pub returns : goal.returns
returns c = goes_in_order
