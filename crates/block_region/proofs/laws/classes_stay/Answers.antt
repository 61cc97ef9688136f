use Rattle.block_region.proofs.CallLaws.{classes_stay}
use Rattle.block_region.proofs.laws.classes_stay.Goals as goal

pub returns : goal.returns
returns c = classes_stay
