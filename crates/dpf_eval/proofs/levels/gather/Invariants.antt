use Rattle.std.proofs.Common.{◌≡◌, ℕ, ◌+◌, ◌-◌, ◌<◌, ◌≤◌, slice_index}
use Rattle.dpf_eval.specs.Groups.{groups_of}
use Rattle.dpf_eval.proofs.levels.gather.Given as goal

abbrev pub invariant-loop-k : goal.invariant-loop-k
invariant-loop-k l = record {
  count : l.groups ≡ groups_of l.splits l.level l.k;
  within : l.groups ≤ l.k;
  nodes : (j : ℕ) → j < l.k → slice_index l.nodes (groups_of l.splits l.level (j + 1) - 1) ≡ slice_index l.states j;
}
