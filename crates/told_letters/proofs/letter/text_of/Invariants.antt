use Rattle.std.proofs.Common.{◌≡◌}
use Rattle.letter_pieces.specs.Pieces.{joined}
use Rattle.told_letters.specs.Parts.{contents}
use Rattle.told_letters.proofs.PartLaws.{parts_below}
use Rattle.told_letters.proofs.letter.text_of.Given as goal

abbrev pub invariant-loop-part : goal.invariant-loop-part
invariant-loop-part l = l.text.items ≡ joined (parts_below (contents l.known) l.heading l.part)
