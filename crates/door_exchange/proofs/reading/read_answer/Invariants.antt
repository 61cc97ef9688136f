use Rattle.std.proofs.Common.{◌≡◌, ◌≤◌, ◌-◌, take}
use Rattle.express_words.specs.Streams.{Gave}
use Rattle.door_exchange.specs.Taking.{IsWanted}
use Rattle.door_exchange.proofs.reading.read_answer.Given as goal

abbrev pub invariant-reading : goal.invariant-reading
invariant-reading g l = record {
  gave : Gave (g.S.Counted.seen l.fn.source).content (g.S.Counted.seen l.source).content
      (take l.count l.came);
  small : l.count ≤ 12358;
  wanted : IsWanted l.path (take l.count l.came);
  unfailed : (g.S.Counted.seen l.source).faults ≡ (g.S.Counted.seen l.fn.source).faults;
  writes_nothing : (g.S.Counted.seen l.source).written ≡ (g.S.Counted.seen l.fn.source).written;
}

abbrev pub decreases-reading : goal.decreases-reading
decreases-reading g l = 12358 - l.count
