use Rattle.std.proofs.Common.{◌≡◌, ◌-◌, ◌%◌, ◌<◌, length, take}
use Rattle.audit_rules.specs.Challenges.{challenge_rs, challenge_ss}
use Rattle.write_sketch.specs.Eight.{HasChallenges}
use Rattle.write_sketch.proofs.batch.challenges_of.Given as goal

abbrev pub invariant-loop-i : goal.invariant-loop-i
invariant-loop-i l = record {
  held : 0 < l.i % 8 → HasChallenges l.ckey l.addresses (l.i - l.i % 8) l.eight;
  length_rs : length l.rs ≡ 256;
  length_ss : length l.ss ≡ 256;
  rs : take l.i l.rs ≡ take l.i (challenge_rs l.ckey l.addresses);
  ss : take l.i l.ss ≡ take l.i (challenge_ss l.ckey l.addresses);
}
