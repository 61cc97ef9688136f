use Rattle.many_conns.proofs.OrderLaws.{on_its_place}
use Rattle.many_conns.proofs.laws.each_answer_on_its_place.Goals as goal

pub returns : goal.returns
returns g c = λ h t place bytes sends. on_its_place _ h t place bytes sends
