use Rattle.std.proofs.Common.{◌≡◌, ℕ, ◌<◌, get_or, length}
use Rattle.block_region.specs.Region.{Place}
use Rattle.block_region.proofs.ArrayLaws.{taken_in, place_at}
use Rattle.block_region.proofs.block_array.BlockArray.open.Given as goal

abbrev pub invariant-loop : goal.invariant-loop
invariant-loop l = record {
  region : l.region ≡ taken_in l.initial.region.home l.size l.counter l.count;
  count : length l.blocks.items ≡ l.counter;
  each : (k : ℕ) (d : Place) → k < length l.blocks.items → get_or l.blocks.items k d ≡ place_at l.initial.region.home k;
}
