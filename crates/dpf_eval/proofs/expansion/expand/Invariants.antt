use Rattle.std.proofs.Common.{◌≡◌, ◌+◌, take, map}
use Rattle.dpf_rules.specs.Keys.{raw_pair}
use Rattle.dpf_eval.proofs.expansion.expand.Given as goal

abbrev pub invariant-loop-k : goal.invariant-loop-k
invariant-loop-k g l = record {
  pairs : take l.k l.pairs ≡ map raw_pair (take l.k l.nodes);
  steps : l.steps ≡ l.fn.steps + l.k;
}
