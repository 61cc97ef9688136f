use Rattle.many_conns.proofs.CommandLaws.{commands_in_order}
use Rattle.many_conns.proofs.laws.commands_are_in_order.Goals as goal

pub returns : goal.returns
returns g c = λ h t events run stays. commands_in_order _ h t events run stays
