use Rattle.std.proofs.Common.{◌≡◌, length}
use Rattle.text_tests.proofs.files.is_carried.Given as goal

abbrev pub invariant-loop-index : goal.invariant-loop-index
invariant-loop-index l = record {
  width : l.joiner.width ≡ length l.part;
  most : l.joiner.most ≡ l.count;
  taken : length l.joiner.taken ≡ l.index;
}
