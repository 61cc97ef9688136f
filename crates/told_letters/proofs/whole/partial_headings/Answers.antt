use Rattle.std.proofs.Common.{◌≡◌, ℕ, List, Vec, Global, ap, sym, subst}
use Rattle.letter_pieces.specs.declared.piece.Piece.{Piece as CodePiece}
use Rattle.told_letters.specs.declared.heading.Heading.{Heading}
use Rattle.told_letters.specs.Parts.{contents, IsPartial}
use Rattle.told_letters.specs.Listing.{IsAdded}
use Rattle.told_letters.proofs.PartLaws.{begun_here}
use Rattle.told_letters.proofs.ListingLaws.{partial_is, code_step, code_still}
use Rattle.told_letters.proofs.whole.partial_headings.Goals as goal
use Rattle.told_letters.proofs.whole.partial_headings.Goals.{then-not-is_whole+in_ok-add, else-not-is_whole}

pub loop-piece-preserved : goal.loop-piece-preserved
loop-piece-preserved c =
    let known : List CodePiece = c.args.known.now in
    let i : ℕ = c.loop-piece.piece-index in
    let hs : List Heading = c.loop-piece.headings.items in
    let new : List Heading = c.if-not-is_whole.headings.items in
    elim c.if-not-is_whole.branch [
      | then-not-is_whole+in_ok-add w ↦
          let same : new ≡ w.add.new.headings.items =
          ap (λ (v : Vec Heading Global). v.items) w.headings-is in
          code_step (IsPartial (contents known)) (partial_is (contents known)) known i _ hs new
          c.of-heading.result c.loop-piece-test.true c.loop-piece.invariant c.of-heading.ensures
          (record {
            begun = begun_here known i _ c.of-heading.result c.loop-piece-test.true c.of-heading.ensures;
            missing = λ is. let passes = c.is_whole.ensures.1 is in let fails = w.if-not-is_whole.true in cc;
          })
          (subst (IsAdded c.of-heading.result hs) (sym same) w.in_ok-add.ensures)
      | else-not-is_whole w ↦
          let same : new ≡ hs = ap (λ (v : Vec Heading Global). v.items) w.headings-is in
          code_still (IsPartial (contents known)) (partial_is (contents known)) known i _ hs new
          c.of-heading.result c.loop-piece-test.true c.loop-piece.invariant c.of-heading.ensures
          (λ so. so.missing (c.is_whole.ensures.0 w.if-not-is_whole.false)) same
    ]
