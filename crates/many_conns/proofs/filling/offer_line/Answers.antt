use Rattle.many_conns.proofs.BatchLaws.{offered_then, offered_more}
use Rattle.many_conns.proofs.filling.offer_line.Goals as goal

pub returns-in-Some : goal.returns-in-Some
returns-in-Some g c = offered_more _ _ _ _ _ _ c.in-Some.ensures

pub returns-in-None : goal.returns-in-None
returns-in-None g c = offered_then _ _ _ _ _ _ _ c.in-None.ensures c.offer_around.ensures
