use Rattle.std.proofs.Common.{◌≡◌, ℕ, ◌<◌, ◌≤◌, slice_index}
use Rattle.dpf_rules.specs.Walk.{side_at}
use Rattle.dpf_eval.specs.Groups.{groups_of, stepped}
use Rattle.dpf_eval.proofs.levels.descend.Given as goal

abbrev pub invariant-loop-k : goal.invariant-loop-k
invariant-loop-k l = record {
  count : l.groups ≡ groups_of l.splits l.level l.k;
  done : (j : ℕ) → j < l.k → slice_index l.states j
      ≡ stepped l.correction.left l.correction.right (side_at (slice_index l.addresses j) l.level) (slice_index l.initial.states j);
  rest : (j : ℕ) → l.k ≤ j → slice_index l.states j ≡ slice_index l.initial.states j;
}
