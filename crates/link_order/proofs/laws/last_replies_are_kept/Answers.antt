use Rattle.link_order.proofs.CallLaws.{keeps_the_last}
use Rattle.link_order.proofs.laws.last_replies_are_kept.Goals as goal

pub returns : goal.returns
returns c = keeps_the_last
