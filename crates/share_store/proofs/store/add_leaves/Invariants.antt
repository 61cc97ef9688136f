use Rattle.std.proofs.Common.{◌≡◌, length, take}
use Rattle.dpf_rules.specs.Walk.{last_of}
use Rattle.share_store.specs.Marks.{shares_in}
use Rattle.share_store.specs.Shares.{shares_with}
use Rattle.share_store.proofs.store.add_leaves.Given as goal

abbrev pub invariant-loop-k : goal.invariant-loop-k
invariant-loop-k l = record {
  size : l.shares.size ≡ l.initial.shares.size;
  room : length l.room ≡ length (last_of l.part);
  marks : length l.live ≡ length l.shares.blocks;
  added : shares_in l.live l.shares.blocks ≡ shares_with l.part (take l.k l.leaves) (shares_in l.live l.initial.shares.blocks);
}
