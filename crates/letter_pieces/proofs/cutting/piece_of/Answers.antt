use Rattle.std.proofs.Common.{ℕ, ◌-◌, length, arith}
use Rattle.file_carry.proofs.CutLaws.{starts}
use Rattle.letter_pieces.proofs.cutting.piece_of.Goals as goal

pub split_at-requires : goal.split_at-requires
split_at-requires c =
    let wide = c.requires.width.0 in
    let len : ℕ = length c.args.text.now in
    let begin = starts len (c.args.width - 28) c.args.part (omega (arith, wide)) c.requires.part in
    rw c.from.ensures begin
