use Rattle.std.proofs.Common.{◌≡◌, ◌≤◌, ◌-◌, take}
use Rattle.express_words.specs.Streams.{Gave}
use Rattle.node_exchange.specs.Taking.{IsWanted}
use Rattle.node_exchange.proofs.reading.read_frame.Given as goal

abbrev pub invariant-reading : goal.invariant-reading
invariant-reading g l = record {
  gave : Gave (g.S.Counted.seen l.fn.source).content (g.S.Counted.seen l.source).content (take l.count l.into);
  small : l.count ≤ 8213;
  wanted : IsWanted (take l.count l.into);
  unfailed : (g.S.Counted.seen l.source).faults ≡ (g.S.Counted.seen l.fn.source).faults;
  writes_nothing : (g.S.Counted.seen l.source).written ≡ (g.S.Counted.seen l.fn.source).written;
}

abbrev pub decreases-reading : goal.decreases-reading
decreases-reading g l = 8213 - l.count
