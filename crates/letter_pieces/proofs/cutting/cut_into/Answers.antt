use Rattle.std.proofs.Common.{ℕ, length, sym, subst, arith}
use Rattle.letter_pieces.specs.Pieces.{Piece, Fits}
use Rattle.letter_pieces.proofs.CutLemmas.{part_fits}
use Rattle.letter_pieces.proofs.cutting.cut_into.Goals as goal

pub write_piece-requires : goal.write_piece-requires
write_piece-requires c =
    let width : ℕ = length c.args.out.now in
    subst (λ (p : Piece). Fits width p) (sym c.piece_of-piece.ensures)
    (part_fits width c.args.letter.0 c.args.text.now c.args.part c.requires.width (omega arith)
    c.requires.some c.requires.parts c.requires.part)
