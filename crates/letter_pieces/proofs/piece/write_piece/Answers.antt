use Rattle.std.proofs.Common.{◌≡◌, ◌∙◌, ◌-◌, ◌++◌, ℕ, List, length, ap, ap₂, arith}
use Rattle.file_carry.specs.Parts.{filled}
use Rattle.letter_pieces.specs.Pieces.{encoded}
use Rattle.letter_pieces.proofs.piece.write_piece.Goals as goal

pub returns : goal.returns
unfolding encoded
returns c =
    let left : length c.split_at_mut-head.result.1.now ≡ length c.args.out.now - 28 =
    omega (arith, c.split_at_mut-head.ensures.back_len) in
    ap₂ (λ (a b : List ℕ). a ++ b)
    (c.copy_from_slice.ensures.after ∙ c.header.ensures)
    (c.fill.ensures ∙ ap (λ n. filled n c.args.piece.now.text.now) left)
