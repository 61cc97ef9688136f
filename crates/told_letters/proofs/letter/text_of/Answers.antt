use Rattle.std.proofs.Common.{◌++◌, ℕ, List, Vec, Global, ap, sym, ◌∙◌}
use Rattle.letter_pieces.specs.Pieces.{Piece, joined}
use Rattle.letter_pieces.specs.Reading.{content}
use Rattle.told_letters.specs.declared.heading.Heading.{Heading}
use Rattle.told_letters.specs.Parts.{contents}
use Rattle.told_letters.proofs.PartLaws.{parts_below, parts_some, parts_none, joined_push}
use Rattle.told_letters.proofs.letter.text_of.Goals as goal
use Rattle.told_letters.proofs.letter.text_of.Goals.{in-Some+in_ok-extend_from_slice, in_default}

pub loop-part-preserved : goal.loop-part-preserved
loop-part-preserved c =
    let known : List Piece = contents c.args.known.now in
    let h : Heading = c.args.heading in
    let n : ℕ = c.loop-part.part in
    elim c.match-first_piece.branch [
      | in-Some+in_ok-extend_from_slice w ↦
          let p : Piece = content w.in-Some.piece in
          ap (λ (v : Vec ℕ Global). v.items) w.text-is
          ∙ w.in_ok-extend_from_slice.ensures.items
          ∙ ap (λ (t : List ℕ). t ++ p.text) c.loop-part.invariant
          ∙ sym (ap joined (parts_some known h n p w.in-Some.ensures) ∙ joined_push (parts_below known h n) p)
      | in_default w ↦
          ap (λ (v : Vec ℕ Global). v.items) w.text-is ∙ c.loop-part.invariant
          ∙ sym (ap joined (parts_none known h n w.in_default.ensures))
    ]
