use Rattle.std.proofs.Common.{sym, ◌∙◌}
use Rattle.told_letters.proofs.PartLaws.{first_here, first_later}
use Rattle.told_letters.proofs.pieces.first_piece.Goals as goal

pub returns-then-has_part : goal.returns-then-has_part
returns-then-has_part c =
    first_here c.args.known.now c.loop-piece.piece-index _ c.args.heading c.args.part c.loop-piece-test.true
    c.loop-piece.invariant (sym c.has_part.ensures ∙ c.if-has_part.true)

pub loop-piece-preserved : goal.loop-piece-preserved
loop-piece-preserved c =
    first_later c.args.known.now c.loop-piece.piece-index _ c.args.heading c.args.part c.loop-piece-test.true
    c.loop-piece.invariant (sym c.has_part.ensures ∙ c.if-has_part.false)
