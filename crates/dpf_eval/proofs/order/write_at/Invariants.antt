use Rattle.std.proofs.Common.{◌≡◌, ℕ, ◌<◌, take, slice_index, length, false}
use Rattle.std.specs.Prelude.{IsTrue}
use Rattle.dpf_eval.specs.Order.{has_box}
use Rattle.dpf_eval.proofs.order.write_at.Given as goal

abbrev pub invariant-loop-k : goal.invariant-loop-k
invariant-loop-k l = record {
  written : (value_of : ℕ → ℕ)
      → ((j : ℕ) → j < length l.boxes → slice_index l.values j ≡ value_of (slice_index l.boxes j))
      → (b : ℕ) → IsTrue (has_box (take l.k l.boxes) b) → slice_index l.out b ≡ value_of b;
  others : (b : ℕ) → has_box (take l.k l.boxes) b ≡ false → slice_index l.out b ≡ slice_index l.initial.out b;
}
