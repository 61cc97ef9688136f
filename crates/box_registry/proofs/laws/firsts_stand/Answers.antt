use Rattle.box_registry.proofs.AddLaws.{firsts_stand}
use Rattle.box_registry.proofs.laws.firsts_stand.Goals as goal

pub returns : goal.returns
returns c = firsts_stand
