use Rattle.std.proofs.Common.{◌≡◌, ◌<◌, ◌⊎◌, ℕ, true, false, get_or, length}
use Rattle.std.specs.List.{Contains}
use Rattle.letter_reader.proofs.admitting.awaits.Given as goal

abbrev pub invariant-loop-place : goal.invariant-loop-place
invariant-loop-place l = record {
  size : length l.awaited ≡ 64;
  named : (a : ℕ) → get_or l.awaited a false ≡ true → Contains l.place-items a;
  awaits : (k : ℕ) → k < l.place-index →
      (get_or l.awaited (get_or l.place-items k 0) false ≡ true) ⊎ (get_or l.place-items k 0 ≡ l.address);
}
