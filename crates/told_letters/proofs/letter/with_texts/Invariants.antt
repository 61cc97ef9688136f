use Rattle.std.proofs.Common.{◌≡◌, take, map}
use Rattle.std.specs.List.{All}
use Rattle.letter_pieces.specs.Pieces.{joined}
use Rattle.told_letters.specs.Parts.{contents, parts_in}
use Rattle.told_letters.proofs.letter.with_texts.Given as goal

abbrev pub invariant-loop-heading : goal.invariant-loop-heading
invariant-loop-heading l = record {
  headings : map (λ m. m.heading) l.letters.items ≡ take l.heading-index l.headings;
  texts : All (λ m. m.text ≡ joined (parts_in (contents l.known) m.heading)) l.letters.items;
}
