use Rattle.std.proofs.Common.{◌≡◌, ℕ, ◌<◌, length, get_or}
use Rattle.dpf_rules.specs.Expansion.{choice}
use Rattle.chacha_expand.proofs.draws.choices.Given as goal

abbrev pub invariant-loop-k : goal.invariant-loop-k
invariant-loop-k l = record {
  size : length l.words ≡ 16;
  done : (k : ℕ) → k < l.k → get_or l.words k 0 ≡ choice l.fn.seed l.fn.serial k;
}
