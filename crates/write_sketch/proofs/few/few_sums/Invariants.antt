use Rattle.std.proofs.Common.{◌≡◌, ◌-◌, ◌%◌, ◌<◌, take}
use Rattle.audit_rules.specs.Audit.{sums_of}
use Rattle.audit_rules.specs.Challenges.{challenge_rs, challenge_ss}
use Rattle.write_sketch.specs.Eight.{HasChallenges}
use Rattle.write_sketch.proofs.few.few_sums.Given as goal

abbrev pub invariant-loop-i : goal.invariant-loop-i
invariant-loop-i l = record {
  held : 0 < l.i % 8 → HasChallenges l.ckey l.addresses (l.i - l.i % 8) l.eight;
  sums : l.sums ≡ sums_of (take l.i l.states) (take l.i (challenge_rs l.ckey l.addresses)) (take l.i (challenge_ss l.ckey l.addresses));
}
