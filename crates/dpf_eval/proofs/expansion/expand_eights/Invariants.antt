use Rattle.std.proofs.Common.{◌≡◌, ◌+◌, ◌-◌, ◌≤◌, length, take, map}
use Rattle.dpf_rules.specs.Keys.{raw_pair}
use Rattle.dpf_eval.proofs.expansion.expand_eights.Given as goal

abbrev pub invariant-loop-at : goal.invariant-loop-at
invariant-loop-at g l = record {
  within : l.at ≤ length l.nodes;
  pairs : take l.at l.pairs ≡ map raw_pair (take l.at l.nodes);
  steps : l.steps ≡ l.initial.steps + l.at;
}

abbrev pub decreases-loop-at : goal.decreases-loop-at
decreases-loop-at g l = length l.nodes - l.at
