use Rattle.std.proofs.Common.{◌≡◌, map, take}
use Rattle.block_region.specs.Region.{unused}
use Rattle.block_region.proofs.region.Region.open.Given as goal

abbrev pub invariant-loop-class : goal.invariant-loop-class
invariant-loop-class l = l.shelves.items ≡ map (λ c. unused c.size c.count) (take l.class-index l.classes)
