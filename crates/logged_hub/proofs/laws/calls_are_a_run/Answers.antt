use Rattle.logged_hub.proofs.RunLaws.{run-of}
use Rattle.logged_hub.proofs.laws.calls_are_a_run.Goals as goal

pub returns : goal.returns
returns g c old new run = run-of g.W.Wires.told g.D.Disk.disk g.met.D.Disk.only_now old new run
