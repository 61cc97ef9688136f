use Rattle.many_conns.proofs.OrderLaws.{follows}
use Rattle.many_conns.proofs.laws.answers_follow_their_log.Goals as goal

pub returns : goal.returns
returns g c = λ h t before after none run. follows _ h t before after none run
