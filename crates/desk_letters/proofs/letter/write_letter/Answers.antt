use Rattle.std.proofs.Common.{◌≡◌, ◌-◌, length, arith}
use Rattle.desk_letters.proofs.LetterLaws.{written}
use Rattle.desk_letters.proofs.letter.write_letter.Goals as goal

pub returns : goal.returns
returns c =
    let left : length c.split_at_mut-head.result.1.now ≡ length c.args.out.now - 26 = omega (arith, c.split_at_mut-head.ensures.back_len) in
    written _ _ _ _ _ _ _ left c.digest-digest.ensures c.write_header.ensures c.fill.ensures
