use Rattle.block_region.proofs.CallLaws.{blocks_lie_apart}
use Rattle.block_region.proofs.laws.blocks_lie_apart.Goals as goal

pub returns : goal.returns
returns c = blocks_lie_apart
