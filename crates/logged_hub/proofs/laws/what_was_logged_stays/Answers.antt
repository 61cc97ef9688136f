use Rattle.logged_hub.proofs.RunLaws.{stays}
use Rattle.logged_hub.proofs.laws.what_was_logged_stays.Goals as goal

pub returns : goal.returns
returns g c old new run kept none = stays g.W.Wires.told g.D.Disk.disk g.met.D.Disk.only_now old new run kept none
