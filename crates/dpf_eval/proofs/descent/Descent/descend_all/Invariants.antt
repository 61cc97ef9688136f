use Rattle.std.proofs.Common.{◌≡◌, ℕ, ◌+◌, ◌<◌, length, slice_index}
use Rattle.dpf_rules.specs.Walk.{state_at}
use Rattle.dpf_rules.specs.Evaluation.{prefixes_below}
use Rattle.dpf_eval.proofs.descent.Descent.descend_all.Given as goal

abbrev pub invariant-loop-level : goal.invariant-loop-level
invariant-loop-level g l = record {
  states : (k : ℕ) → k < length l.entries.addresses.items
      → slice_index l.self k ≡ state_at l.key.part.now l.key.server l.key.root (slice_index l.entries.addresses.items k) l.level;
  room : length l.self ≡ length l.initial.self;
  steps : l.steps ≡ l.initial.steps + prefixes_below l.level l.entries.addresses.items;
}
