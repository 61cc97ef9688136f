use Rattle.std.proofs.lemmas.List.{map-set}
use Rattle.block_region.proofs.shelf.BlockShelf.give.Goals as goal

pub returns : goal.returns
returns c = rw (← c.self.view_is) (simp map-set)
