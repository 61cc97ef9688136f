use Rattle.std.proofs.Common.{◌≡◌, ◌≢◌, ℕ, ◌+◌, ◌<◌, ◌≤◌, length, slice_index, vec_capacity}
use Rattle.dpf_rules.specs.Evaluation.{prefix}
use Rattle.dpf_eval.proofs.splits.split_into.Given as goal

abbrev pub invariant-loop-k : goal.invariant-loop-k
invariant-loop-k l = record {
  length : length l.splits.items ≡ l.k;
  first : slice_index l.splits.items 0 ≡ 0;
  joined : (j i : ℕ) → j + 1 < l.k → i < slice_index l.splits.items (j + 1) → i ≤ 128
      → prefix i (slice_index l.addresses j) ≡ prefix i (slice_index l.addresses (j + 1));
  apart : (j i : ℕ) → j + 1 < l.k → slice_index l.splits.items (j + 1) ≤ i → i ≤ 128
      → prefix i (slice_index l.addresses j) ≢ prefix i (slice_index l.addresses (j + 1));
  room : vec_capacity l.splits ≡ vec_capacity l.fn.splits;
}
