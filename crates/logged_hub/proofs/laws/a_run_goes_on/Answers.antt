use Rattle.logged_hub.proofs.RunLaws.{run-then}
use Rattle.logged_hub.proofs.laws.a_run_goes_on.Goals as goal

pub returns : goal.returns
returns g c old mid new first second = run-then g.W.Wires.told g.D.Disk.disk old mid new first second
