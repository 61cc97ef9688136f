use Rattle.std.proofs.Common.{◌≡◌, ℕ, List, Vec, Global, ap, sym, subst}
use Rattle.letter_pieces.specs.declared.piece.Piece.{Piece as CodePiece}
use Rattle.told_letters.specs.declared.heading.Heading.{Heading}
use Rattle.told_letters.specs.Parts.{IsWhole}
use Rattle.told_letters.specs.Listing.{IsAdded}
use Rattle.told_letters.proofs.ListingLaws.{whole_is, code_step, code_still}
use Rattle.told_letters.proofs.whole.whole_headings.Goals as goal
use Rattle.told_letters.proofs.whole.whole_headings.Goals.{then-is_whole+in_ok-add, else-is_whole}

pub loop-i-preserved : goal.loop-i-preserved
loop-i-preserved c =
    let known : List CodePiece = c.args.known.now in
    let i : ℕ = c.loop-i.i in
    let hs : List Heading = c.loop-i.headings.items in
    let new : List Heading = c.if-is_whole.headings.items in
    elim c.if-is_whole.branch [
      | then-is_whole+in_ok-add w ↦
          let same : new ≡ w.add.new.headings.items =
          ap (λ (v : Vec Heading Global). v.items) w.headings-is in
          code_step IsWhole whole_is known i _ hs new c.of-heading.result c.loop-i-test.true
          c.loop-i.invariant c.of-heading.ensures (c.is_whole.ensures.0 w.if-is_whole.true)
          (subst (IsAdded c.of-heading.result hs) (sym same) w.in_ok-add.ensures)
      | else-is_whole w ↦
          let same : new ≡ hs = ap (λ (v : Vec Heading Global). v.items) w.headings-is in
          code_still IsWhole whole_is known i _ hs new c.of-heading.result c.loop-i-test.true
          c.loop-i.invariant c.of-heading.ensures
          (λ so. let passes = c.is_whole.ensures.1 so in let fails = w.if-is_whole.false in cc) same
    ]
