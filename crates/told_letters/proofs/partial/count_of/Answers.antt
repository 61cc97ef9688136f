use Rattle.std.proofs.Common.{ℕ, List, sym, ◌∙◌, arith}
use Rattle.letter_pieces.specs.Pieces.{Piece}
use Rattle.told_letters.specs.declared.heading.Heading.{Heading}
use Rattle.told_letters.specs.Parts.{contents}
use Rattle.told_letters.proofs.PartLaws.{parts_counted, parts_uncounted}
use Rattle.told_letters.proofs.partial.count_of.Goals as goal
use Rattle.told_letters.proofs.partial.count_of.Goals.{then-is_some, else-is_some}

pub loop-part-preserved : goal.loop-part-preserved
loop-part-preserved c =
    let known : List Piece = contents c.args.known.now in
    let h : Heading = c.args.heading in
    let n : ℕ = c.loop-part.part in
    elim c.if-is_some.branch [
      | then-is_some w ↦
          let more = parts_counted known h n c.first_piece.result c.first_piece.ensures
          (sym c.is_some.ensures ∙ w.if-is_some.true) in
          record { counted = omega (arith, more); fits = omega arith }
      | else-is_some w ↦
          let same = parts_uncounted known h n c.first_piece.result c.first_piece.ensures
          (sym c.is_some.ensures ∙ w.if-is_some.false) in
          record { counted = omega (arith, same); fits = omega arith }
    ]
