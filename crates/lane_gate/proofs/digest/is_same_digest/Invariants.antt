use Rattle.std.proofs.Common.{◌≡◌, ℕ, ◌*◌, ◌<◌, ◌≤◌, get_or}
use Rattle.lane_gate.proofs.digest.is_same_digest.Given as goal

abbrev pub invariant-loop-place : goal.invariant-loop-place
invariant-loop-place l = record {
  few : l.differing ≤ 255 * l.place;
  found : l.differing ≡ 0 → (k : ℕ) → k < l.place → get_or l.one k 0 ≡ get_or l.other k 0;
  only : l.one ≡ l.other → l.differing ≡ 0;
}
