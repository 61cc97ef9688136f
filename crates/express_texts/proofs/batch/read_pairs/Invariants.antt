use Rattle.std.proofs.Common.{◌≡◌, ◌≤◌, length}
use Rattle.express_texts.specs.Lines.{lines_of}
use Rattle.express_texts.specs.Batch.{most_pairs, pairs_of}
use Rattle.express_texts.proofs.LoopLemmas.{left_of}
use Rattle.express_texts.proofs.batch.read_pairs.Given as goal

abbrev pub invariant-loop-rest : goal.invariant-loop-rest
invariant-loop-rest l = record {
  same : left_of most_pairs l.zero.items l.one.items (lines_of l.rest) ≡ pairs_of most_pairs 2 (lines_of l.text);
  few : length l.zero.items ≤ 20000;
}

abbrev pub decreases-loop-rest : goal.decreases-loop-rest
decreases-loop-rest l = length l.rest
