use Rattle.std.proofs.Common.{◌≡◌, ◌-◌, ◌*◌, ◌++◌, length}
use Rattle.express_cli.specs.Cloaks.{draws}
use Rattle.express_cli.proofs.drawing.drawn_block.Given as goal

abbrev pub invariant-loop-index : goal.invariant-loop-index
invariant-loop-index l = record {
  bytes : l.block.items ++ draws l.seed l.index 257 ≡ draws l.seed 129 257;
  size : length l.block.items ≡ 32 * (l.index - 129);
}
