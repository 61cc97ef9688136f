use Rattle.many_conns.proofs.OrderLaws.{of_its_log}
use Rattle.many_conns.proofs.laws.the_server_is_of_its_log.Goals as goal

pub returns : goal.returns
returns g c = λ h t events none run. of_its_log _ h t events none run
