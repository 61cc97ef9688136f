use Rattle.http_wires.proofs.RunLaws.{asked_in_order}
use Rattle.http_wires.proofs.laws.requests_are_asked_in_order.Goals as goal

pub returns : goal.returns
returns c = asked_in_order
