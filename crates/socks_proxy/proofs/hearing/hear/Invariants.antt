use Rattle.std.proofs.Common.{◌≡◌, ◌≤◌, ◌-◌, length, take}
use Rattle.express_words.specs.Streams.{Gave}
use Rattle.socks_proxy.proofs.hearing.hear.Given as goal

abbrev pub invariant-hearing : goal.invariant-hearing
invariant-hearing g l = record {
  gave : Gave (g.S.Counted.seen l.fn.source).content (g.S.Counted.seen l.source).content (take l.count l.into);
  within : l.count ≤ length l.into;
  unfailed : (g.S.Counted.seen l.source).faults ≡ (g.S.Counted.seen l.fn.source).faults;
  writes_nothing : (g.S.Counted.seen l.source).written ≡ (g.S.Counted.seen l.fn.source).written;
}

abbrev pub decreases-hearing : goal.decreases-hearing
decreases-hearing g l = length l.into - l.count
