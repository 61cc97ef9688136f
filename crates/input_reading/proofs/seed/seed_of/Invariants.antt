use Rattle.std.proofs.Common.{◌≡◌, ◌≤◌, ◌-◌, length, take}
use Rattle.express_words.specs.Streams.{Gave}
use Rattle.input_reading.specs.Seeds.{seed_bytes}
use Rattle.input_reading.proofs.seed.seed_of.Given as goal

abbrev pub invariant-taking : goal.invariant-taking
invariant-taking g l = record {
  gave : Gave (g.S.Counted.seen l.fn.random).content (g.S.Counted.seen l.random).content (take l.length l.seed);
  unfailed : (g.S.Counted.seen l.random).faults ≡ (g.S.Counted.seen l.fn.random).faults;
  short : l.length ≤ seed_bytes;
  long : length l.seed ≡ seed_bytes;
}

abbrev pub decreases-taking : goal.decreases-taking
decreases-taking g l = seed_bytes - l.length
