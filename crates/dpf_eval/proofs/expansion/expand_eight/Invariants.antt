use Rattle.std.proofs.Common.{◌≡◌, ◌+◌}
use Rattle.dpf_eval.proofs.expansion.expand_eight.Given as goal

abbrev pub invariant-loop-lane : goal.invariant-loop-lane
invariant-loop-lane g l = l.steps ≡ l.initial.steps + l._lane
