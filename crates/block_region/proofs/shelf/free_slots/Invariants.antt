use Rattle.std.proofs.Common.{◌≡◌, length, map, replicate, None}
use Rattle.block_region.specs.Slots.{content, HaveSize}
use Rattle.block_region.proofs.shelf.free_slots.Given as goal

abbrev pub invariant-loop : goal.invariant-loop
invariant-loop l = record {
  free : map content l.slots.items ≡ replicate l.counter None;
  sized : HaveSize l.size l.slots.items;
  count : length l.slots.items ≡ l.counter;
}
