use Rattle.std.proofs.Common.{◌≡◌, ◌≤◌, [], length}
use Rattle.express_texts.specs.Lines.{lines_of}
use Rattle.express_texts.specs.GameLines.{addresses_on}
use Rattle.express_texts.proofs.cloak.read_addresses.Given as goal

abbrev pub invariant-loop-rest : goal.invariant-loop-rest
invariant-loop-rest l = record {
  same : addresses_on l.addresses.items (lines_of l.rest) ≡ addresses_on [] (lines_of l.text);
  few : length l.addresses.items ≤ 4096;
}

abbrev pub decreases-loop-rest : goal.decreases-loop-rest
decreases-loop-rest l = length l.rest
