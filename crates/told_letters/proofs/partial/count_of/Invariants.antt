use Rattle.std.proofs.Common.{◌≡◌, ◌≤◌, length}
use Rattle.told_letters.specs.Parts.{contents}
use Rattle.told_letters.proofs.PartLaws.{parts_below}
use Rattle.told_letters.proofs.partial.count_of.Given as goal

abbrev pub invariant-loop-part : goal.invariant-loop-part
invariant-loop-part l = record {
  counted : l.count ≡ length (parts_below (contents l.known) l.heading l.part);
  fits : l.count ≤ l.part;
}
