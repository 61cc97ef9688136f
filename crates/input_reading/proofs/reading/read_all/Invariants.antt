use Rattle.std.proofs.Common.{◌≡◌, ◌≤◌, ◌+◌, ◌-◌, length}
use Rattle.express_words.specs.Streams.{Gave}
use Rattle.input_reading.specs.Reading.{most_bytes}
use Rattle.input_reading.proofs.reading.read_all.Given as goal

abbrev pub invariant-reading : goal.invariant-reading
invariant-reading g l = record {
  gave : Gave (g.S.Counted.seen l.fn.input).content (g.S.Counted.seen l.input).content l.text.items;
  unfailed : (g.S.Counted.seen l.input).faults ≡ (g.S.Counted.seen l.fn.input).faults;
  short : length l.text.items ≤ most_bytes + 1;
}

abbrev pub decreases-reading : goal.decreases-reading
decreases-reading g l = most_bytes + 1 - length l.text.items
