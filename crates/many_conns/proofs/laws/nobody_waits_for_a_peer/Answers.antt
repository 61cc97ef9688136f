use Rattle.many_conns.proofs.WaitLaws.{nobody_waits}
use Rattle.many_conns.proofs.laws.nobody_waits_for_a_peer.Goals as goal

pub returns : goal.returns
returns g c = λ h m now later between t run none waits. nobody_waits _ h m now later between t run none waits
